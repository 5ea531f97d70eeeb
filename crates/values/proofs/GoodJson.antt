-- JSON: a value that stands where the reader of messages takes one, in a text of UTF-8, can be written. Assumes nothing.
use Rattle.std.specs.Prelude.{Some, Option}
use lib.Dec.{lit<}
use Prim.Native.Nat.{ℕ, zero, suc, ◌+◌, ◌≤◌}
use mathlib.Core.Bool.{true, false}
use mathlib.Core.List.{List, [], ◌∷◌, ◌++◌}
use mathlib.Core.Logic.{◌⊎◌, inl, inr, ⊎_elim}
use mathlib.Core.Path.{◌≡◌, refl, sym, ap, ◌∙◌}
use native.Mathlib.Omega.{arith}
use lib.ListN.{length, take, take-append-drop}
use Rattle.seq.specs.Bytes.{byte_at, among}
use Rattle.seq.specs.Lists.{All, Pairs}
use Rattle.seq.proofs.Bytes.{digit-bounds}
use Rattle.lex.specs.declared.Mark.{Mark}
use Rattle.lex.specs.declared.Mark.TheVariants.{Item, End, Neither}
use Rattle.lex.specs.Lex.{minus, number, first, next}
use Rattle.lex.proofs.Laws.{minus_is, minus-none, number_is}
use Rattle.lex.proofs.Stands.{stands-next, to_same, and-then}
use Rattle.utf8.specs.Utf8.{well_formed}
use Rattle.utf8.proofs.Table.{utf8-table}
use Rattle.strings.specs.Strings.{undone, has_lone}
use Rattle.strings.proofs.Spelling.{undoing}
use Rattle.strings.proofs.Shorter.{escaped-undone}
use Rattle.strings.proofs.Written.{escaped-length}
use Rattle.json_text.specs.Json.{follow, key_from, members, braced, list, dict, value, series as skip_series, enclosed as skip_enclosed}
use Rattle.json_text.proofs.Items.{stands-short}
use Rattle.json_text.proofs.Laws.{value-string, value-list, value-dict, value-minus, value-digit, value-true, value-false, value-null}
use Rattle.seq.specs.declared.Format.TheVariants.{Json}
use Rattle.values.specs.Value.{Scalar, Member, short, GoodText, GoodScalar, GoodMember, GoodLayer, Good, Differ}
use Rattle.values.specs.Read.{Read, made}
use Rattle.values.specs.Read.Read.{Gives}
use Rattle.values.specs.Stands.{json_scalar_at, onward, series, enclosed, json_member_at, json_layer_at, stands}
use Rattle.utf8.proofs.Cuts.{cut}
use Rattle.values.proofs.Given.{same-value, same_place, gives-not, then-gives, made-gives, Sound, unrefused, New, new_apart, new-before}
use Rattle.values.proofs.GivenJson.{Quoted, Inside, quoted-inside, Digits, positive, negative, json-scalar, json-layer, json-member}

-- both readers go on from one mark
both-onward : {A : Type 0} (k : Mark) (more : ℕ → Read (List A)) (go : ℕ → Option ℕ) (vs : List A) (e z : ℕ) → onward k more ≡ Gives vs e
    → follow k go ≡ Some z → ((vs ≡ []) × (e ≡ z)) ⊎ ((a : ℕ) × (more a ≡ Gives vs e) × (go a ≡ Some z))
both-onward (Item a) more go vs e z g t = inr (a, g, t)
both-onward (End i) more go vs e z g t = inl (same-value g refl, sym (same_place refl g) ∙ to_same refl t)
both-onward Neither more go vs e z g t = gives-not g refl

-- ---- a list's items, and a dict's members
module _ {A : Type 0} (item : ℕ → Read A) (skip : ℕ → Option ℕ) (P : A → Type 0) (f : Sound item skip P) (close : ℕ) (s : List ℕ) where
  series-good : (fuel at e z : ℕ) (vs : List A) → series item close fuel s at ≡ Gives vs e → skip_series skip close fuel s at ≡ Some z
      → (e ≡ z) × (length vs ≤ fuel) × All P vs
  unfolding series skip_series
  series-good zero at e z vs g t = gives-not g refl
  series-good (suc n) at e z vs g t =
      let (v, m, p, q) = then-gives (item at) (λ v e. made (λ vs. v ∷ vs) (onward (next close s e) (series item close n s))) vs e g in
      let (us, r, w) = made-gives (λ vs. v ∷ vs) (onward (next close s m) (series item close n s)) vs e q in
      let (m', p', q') = and-then (skip at) _ z t in
      let (y, x) = f at m m' v p p' in
      let rest : (e ≡ z) × (length us ≤ n) × All P us =
      ⊎_elim (λ (k, l). rw k (l, omega arith, tt)) (λ (a, g', t'). series-good n a e z us g' t')
      (both-onward (next close s m) (series item close n s) (skip_series skip close n s) us e z r (rw (sym y) at q')) in
      let l = rest.1 in
      rw w (rest.0, omega arith, (x, rest.2))

  enclosed-good : (at e z : ℕ) (vs : List A) → enclosed item close s at ≡ Gives vs e → skip_enclosed skip close s at ≡ Some z
      → (e ≡ z) × (length vs ≤ length s) × All P vs
  unfolding enclosed skip_enclosed
  enclosed-good at e z vs g t =
      ⊎_elim (λ (k, l). rw k (l, omega arith, tt)) (λ (a, g', t'). series-good (length s) a e z vs g' t')
      (both-onward (first close s at) (series item close (length s) s) (skip_series skip close (length s) s) vs e z g t)

module _ (s : List ℕ) (utf8 : well_formed s ≡ true) (size : short (length s)) where
  -- ---- texts: what stands between two quotes of a text of UTF-8 is UTF-8
  inside-utf8 : (at e : ℕ) (x : Inside s at e) → well_formed x.bytes ≡ true
  inside-utf8 at e x =
      let whole : well_formed (take at s ++ (34 ∷ (x.bytes ++ (34 ∷ x.rest)))) ≡ true =
      ap (λ (u : List ℕ). well_formed (take at s ++ u)) (sym x.stands) ∙ ap well_formed (take-append-drop at s) ∙ utf8 in
      (cut 34 (lit< tt) x.rest x.bytes (cut 34 (lit< tt) (x.bytes ++ (34 ∷ x.rest)) (take at s) whole).1).0

  inside-good : (at e : ℕ) (x : Inside s at e) → has_lone x.bytes ≡ false → GoodText (undone x.bytes)
  inside-good at e x l =
      let c = (utf8-table x.bytes).0 (inside-utf8 at e x) in
      let m = escaped-undone x.bytes x.good c in
      let n = escaped-length (undone x.bytes) in
      let k = stands-short s (at + 1) x.bytes (34 ∷ x.rest) (stands-next s at (34 ∷ []) (x.bytes ++ (34 ∷ x.rest)) x.stands) in
      record { utf8 = (utf8-table (undone x.bytes)).1 (undoing.utf8 x.bytes x.good c l); sized = omega arith }

  text-good : (at e : ℕ) (t : List ℕ) → Quoted s at t e → GoodText t
  text-good at e t q =
      let x = quoted-inside s at e q.ends in
      rw (q.is, x.is) (inside-good at e x (sym (ap has_lone x.is) ∙ q.lone))

  -- ---- scalars
  -- where a number's digits stand
  number-end : (at a n e : ℕ) → a ≡ minus s at → Digits s a n e → number s at ≡ Some e
  number-end at a n e h d = number_is s at a e h d.ends e d.fraction ∙ d.exponent

  module _ (d at z : ℕ) (t : value d s at ≡ Some z) where
    scalar-good : (v : Scalar) (e : ℕ) → json_scalar_at s at ≡ Gives v e → (e ≡ z) × GoodScalar v
    scalar-good v e g =
        json-scalar s at (λ v e. (e ≡ z) × GoodScalar v) v e g
        (λ u b q. (to_same (value-string d s at (byte_at s at) refl b ∙ q.ends) t, text-good at e u q))
        (λ b k.
        let ends : (n : ℕ) → Digits s (at + 1) n e → e ≡ z =
        λ n x. to_same (value-minus d s at (byte_at s at) refl b ∙ number-end at (at + 1) n e (sym (minus_is s at (byte_at s at) refl b)) x) t in
        negative s (at + 1) (λ v. (e ≡ z) × GoodScalar v) v e k (λ n x. (ends n x, lit< tt)) (λ n x l m. (ends n x, omega arith)))
        (λ b k.
        let (l, m) = digit-bounds (byte_at s at) b in
        positive s at (λ v. (e ≡ z) × GoodScalar v) v e k
        (λ n x o. (
          to_same (value-digit d s at (byte_at s at) refl l m ∙ number-end at at n e (sym (minus-none s at (byte_at s at) refl (λ q. omega arith))) x) t,
          o,
        )))
        (λ b k. (to_same (value-true d s at (byte_at s at) refl b ∙ k) t, tt))
        (λ b k. (to_same (value-false d s at (byte_at s at) refl b ∙ k) t, tt))
        (λ b k. (to_same (value-null d s at (byte_at s at) refl b ∙ k) t, tt))

  module _ {A : Type 0} (item : ℕ → Read A) (skip : ℕ → Option ℕ) (P : A → Type 0) (f : Sound item skip P) where
    -- a member, and the members behind it
    member-good : (n : ℕ) (seen : List (List ℕ)) (at i z : ℕ) (m : Member A) → json_member_at item s at ≡ Gives m i → members skip seen (suc n) s at ≡ Some z
        → GoodMember P m × (among m.key seen ≡ false) × (follow (next 125 s i) (members skip (m.key ∷ seen) n s) ≡ Some z)
    unfolding members
    member-good n seen at i z m g t =
        let (j, a, q, c, p) = json-member item s at m i g in
        let (new, t₁) = unrefused (among (key_from s at j) seen) _ z (rw q.ends at t) in
        let (i', t₂, t₃) = and-then (skip a) _ z (rw c at t₁) in
        let (y, x) = f a i i' m.value p t₂ in (
          record { key = text-good at j m.key q; value = x },
          ap (λ (k : List ℕ). among k seen) q.is ∙ new,
          rw (sym y, sym q.is) at t₃,
        )

    abbrev Sane : ℕ → List (List ℕ) → ℕ → ℕ → List (Member A) → Type 0
    Sane n seen e z ms = (e ≡ z) × (length ms ≤ n) × All (GoodMember P) ms × Pairs Differ ms × New seen ms

    members-good : (n : ℕ) (seen : List (List ℕ)) (at e z : ℕ) (ms : List (Member A)) → series (json_member_at item s) 125 n s at ≡ Gives ms e
        → members skip seen n s at ≡ Some z → Sane n seen e z ms
    unfolding series
    members-good zero seen at e z ms g t = gives-not g refl
    members-good (suc n) seen at e z ms g t =
        let (m, i, p, q) = then-gives (json_member_at item s at) (λ v e. made (λ vs. v ∷ vs) (onward (next 125 s e) (series (json_member_at item s) 125 n s))) ms e g in
        let (us, r, w) = made-gives (λ vs. m ∷ vs) (onward (next 125 s i) (series (json_member_at item s) 125 n s)) ms e q in
        let (x, new, u) = member-good n seen at i z m p t in
        let rest : Sane n (m.key ∷ seen) e z us =
        ⊎_elim (λ (k, l). rw k (l, omega arith, tt, tt, tt)) (λ (a, g', t'). members-good n (m.key ∷ seen) a e z us g' t')
        (both-onward (next 125 s i) (series (json_member_at item s) 125 n s) (members skip (m.key ∷ seen) n s) us e z r u) in
        let l = rest.1 in
        rw w (
          rest.0,
          omega arith,
          (x, rest.2),
          (new_apart m.key seen us rest.4, rest.3),
          (new, new-before m.key seen us rest.4),
        )

    braced-good : (at e z : ℕ) (ms : List (Member A)) → enclosed (json_member_at item s) 125 s at ≡ Gives ms e → braced skip s at ≡ Some z
        → Sane (length s) [] e z ms
    unfolding enclosed braced
    braced-good at e z ms g t =
        ⊎_elim (λ (k, l). rw k (l, omega arith, tt, tt, tt)) (λ (a, g', t'). members-good (length s) [] a e z ms g' t')
        (both-onward (first 125 s at) (series (json_member_at item s) 125 (length s) s) (members skip [] (length s) s) ms e z g t)

  layer-good : (d : ℕ) → Sound (stands Json d s) (value d s) (Good d) → Sound (json_layer_at (stands Json d s) s) (value (suc d) s) (GoodLayer (Good d))
  unfolding list dict
  layer-good d f at e z v g t =
      json-layer s at (stands Json d s) (λ v e. (e ≡ z) × GoodLayer (Good d) v) v e g
      (λ vs b r.
      let (a, l, c) = enclosed-good (stands Json d s) (value d s) (Good d) f 93 s (at + 1) e z vs r
      (sym (value-list (suc d) s at (byte_at s at) refl b) ∙ t) in
      (a, (omega arith, c)))
      (λ ms b r.
      let (a, l, c, k, o) = braced-good (stands Json d s) (value d s) (Good d) f (at + 1) e z ms r
      (sym (value-dict (suc d) s at (byte_at s at) refl b) ∙ t) in
      (a, (omega arith, c, k)))
      (λ u n m r. scalar-good (suc d) at z t u e r)

  pub json-good : (depth : ℕ) → Sound (stands Json depth s) (value depth s) (Good depth)
  unfolding stands
  json-good zero at e z v g t = scalar-good 0 at z t v e g
  json-good (suc d) at e z v g t = layer-good d (json-good d) at e z v g t
