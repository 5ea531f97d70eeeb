-- MsgPack: a value that stands where the reader of messages takes one can be written. Assumes nothing.
use Rattle.std.specs.Prelude.{Some, Option}
use Prim.Native.Nat.{ℕ, zero, suc, ◌<◌}
use mathlib.Core.Bool.{true, false}
use mathlib.Core.List.{List, [], ◌∷◌}
use mathlib.Core.Logic.{⊎_elim}
use mathlib.Core.Path.{◌≡◌, refl, sym, ap, ◌∙◌}
use native.Mathlib.Omega.{arith}
use lib.Dec.{ltb}
use lib.ListN.{length}
use Rattle.seq.specs.Bytes.{among}
use Rattle.seq.specs.Lists.{All, Pairs}
use Rattle.lex.proofs.Stands.{to_same, and-then}
use Rattle.msgpack.specs.declared.Head.{Head}
use Rattle.msgpack.specs.Head.{head_at, str}
use Rattle.msgpack.specs.MsgPack.{text, times, with_key, again, pairs, by_head, value}
use Rattle.values.specs.Value.{Scalar, Layer, Member, GoodText, GoodScalar, GoodMember, GoodLayer, Good, Differ}
use Rattle.values.specs.Read.{Read, made}
use Rattle.values.specs.Read.Read.{Gives}
use Rattle.seq.specs.declared.Format.TheVariants.{MsgPack}
use Rattle.values.specs.Stands.{pack_scalar_at, items, pack_member_at, pack_layer_at, stands}
use Rattle.values.proofs.Forms.{Bounded, head-bounded, str-sized, array-sized, map-sized}
use Rattle.values.proofs.Given.{same-value, same_place, then-gives, made-gives, Sound, unrefused, New, new_apart, new-before}
use Rattle.values.proofs.GivenPack.{Told, told-length, text-to, pack-member, pack-scalar, pack-layer}

-- ---- values one after the other
items-good : {A : Type 0} (item : ℕ → Read A) (skip : ℕ → Option ℕ) (P : A → Type 0) → Sound item skip P
    → (n at e z : ℕ) (vs : List A) → items item n at ≡ Gives vs e → times skip n at ≡ Some z → (e ≡ z) × (length vs ≡ n) × All P vs
unfolding items times
items-good item skip P f zero at e z vs g t =
    rw (sym (same-value refl g)) (sym (same_place refl g) ∙ to_same refl t, refl, tt)
items-good item skip P f (suc n) at e z vs g t =
    let (v, m, p, q) = then-gives (item at) (λ v e. made (λ vs. v ∷ vs) (items item n e)) vs e g in
    let (us, r, w) = made-gives (λ vs. v ∷ vs) (items item n m) vs e q in
    let (m', p', q') = and-then (skip at) (times skip n) z t in
    let (y, x) = f at m m' v p p' in
    let (a, b, c) = items-good item skip P f n m e z us r (rw (sym y) at q') in
    rw w (a, ap suc b, (x, c))

module _ (s : List ℕ) where
  -- ---- one head
  text-good : (at : ℕ) (h : Head) → Bounded at h → (t : List ℕ) (e : ℕ) → Told s h t e → GoodText t
  text-good at h b t e g =
      let l = told-length s h t e g in
      let k = b.sized (str-sized h.kind g.kind) in
      record { utf8 = g.utf8; sized = omega arith }

  module _ (h : Head) (ar ma : ℕ → ℕ → Option ℕ) (z : ℕ) (t : by_head ar ma s h ≡ Some z) where
    flat : (k : ℕ) → h.kind ≡ k → ltb k str ≡ true → h.end ≡ z
    unfolding by_head
    flat k e l = to_same (rw (e, l)) t

    text-end : (u : List ℕ) (e : ℕ) → Told s h u e → e ≡ z
    unfolding by_head
    text-end u e g =
        let q : text s h.end h.n ≡ Some z = rw g.kind at t in
        g.ends ∙ sym (text-to s h.end h.n z q).2

    scalar-good : (at : ℕ) → Bounded at h → (v : Scalar) (e : ℕ) → pack_scalar_at s h ≡ Gives v e → (e ≡ z) × GoodScalar v
    scalar-good at b v e g =
        pack-scalar s h (λ v e. (e ≡ z) × GoodScalar v) v e g
        (λ k. (flat _ k refl, tt))
        (λ f k. (⊎_elim (λ k. flat _ k refl) (λ k. flat _ k refl) k, tt))
        (λ k. (flat _ k refl, (b.wholes k).0))
        (λ k. (flat _ k refl, (b.belows k).0))
        (λ u k. (text-end u e k, text-good at h b u e k))

  -- ---- a key that was taken is new, and is kept
  module _ (h : Head) (k : List ℕ) (e : ℕ) (g : Told s h k e) (seen : List (List ℕ)) where
    key-new : again s h e seen ≡ among k seen
    unfolding again
    key-new = rw (g.kind, sym g.is)

    key-kept : with_key s h e seen ≡ k ∷ seen
    unfolding with_key
    key-kept = rw (g.kind, sym g.is)

  module _ {A : Type 0} (item : ℕ → Read A) (skip : ℕ → Option ℕ) (P : A → Type 0) (b : (at : ℕ) → Bounded at (head_at s at))
      (keys : (at m : ℕ) → skip at ≡ Some m → (k : List ℕ) (e : ℕ) → Told s (head_at s at) k e → e ≡ m) (f : Sound item skip P) where
    -- a member, and the pairs behind it
    member-good : (n : ℕ) (seen : List (List ℕ)) (at i z : ℕ) (m : Member A) → pack_member_at item s at ≡ Gives m i → pairs skip s seen (suc n) at ≡ Some z
        → GoodMember P m × (among m.key seen ≡ false) × (pairs skip s (m.key ∷ seen) n i ≡ Some z)
    unfolding pairs
    member-good n seen at i z m g t =
        let h = head_at s at in
        let (j, k, p) = pack-member item s at m i g in
        let (j', t₁, t₂) = and-then (skip at) _ z t in
        let y = keys at j' t₁ m.key j k in
        let (new, t₃) = unrefused (again s h j seen) _ z (rw (sym y) at t₂) in
        let (i', t₄, t₅) = and-then (skip j) (pairs skip s (with_key s h j seen) n) z t₃ in
        let (y₂, x) = f j i i' m.value p t₄ in (
          record { key = text-good at h (b at) m.key j k; value = x },
          sym (key-new h m.key j k seen) ∙ new,
          rw (sym y₂, key-kept h m.key j k seen) at t₅,
        )

    members-good : (n : ℕ) (seen : List (List ℕ)) (at e z : ℕ) (ms : List (Member A)) → items (pack_member_at item s) n at ≡ Gives ms e
        → pairs skip s seen n at ≡ Some z → (e ≡ z) × (length ms ≡ n) × All (GoodMember P) ms × Pairs Differ ms × New seen ms
    unfolding items pairs
    members-good zero seen at e z ms g t =
        rw (sym (same-value refl g)) (sym (same_place refl g) ∙ to_same refl t, refl, tt, tt, tt)
    members-good (suc n) seen at e z ms g t =
        let (m, i, p, q) = then-gives (pack_member_at item s at) (λ v e. made (λ vs. v ∷ vs) (items (pack_member_at item s) n e)) ms e g in
        let (rest, r, w) = made-gives (λ vs. m ∷ vs) (items (pack_member_at item s) n i) ms e q in
        let (x, new, u) = member-good n seen at i z m p t in
        let (a, l, c, d, o) = members-good n (m.key ∷ seen) i e z rest r u in
        rw w (a, ap suc l, (x, c), (new_apart m.key seen rest o, d), (new, new-before m.key seen rest o))

    layer-good : (at e z : ℕ) (v : Layer A) → pack_layer_at item s (head_at s at) ≡ Gives v e
        → by_head (times skip) (pairs skip s []) s (head_at s at) ≡ Some z → (e ≡ z) × GoodLayer P v
    unfolding by_head
    layer-good at e z v g t =
        let h = head_at s at in
        pack-layer s h item (λ v e. (e ≡ z) × GoodLayer P v) v e g
        (λ vs k r.
        let (a, l, c) = items-good item skip P f h.n h.end e z vs r (rw k at t) in
        let n = (b at).sized (array-sized h.kind k) in
        (a, (omega arith, c)))
        (λ ms k r.
        let (a, l, c, d, o) = members-good h.n [] h.end e z ms r (rw k at t) in
        let n = (b at).sized (map-sized h.kind k) in
        (a, (omega arith, c, d)))
        (λ u r. scalar-good h (times skip) (pairs skip s []) z t at (b at) u e r)

  keys-end : (d at m : ℕ) → value d s at ≡ Some m → (k : List ℕ) (e : ℕ) → Told s (head_at s at) k e → e ≡ m
  unfolding value
  keys-end zero at m t k e g = text-end (head_at s at) _ _ m t k e g
  keys-end (suc d) at m t k e g = text-end (head_at s at) _ _ m t k e g

  pub pack-good : All (λ b. b < 256) s → (depth : ℕ) → Sound (stands MsgPack depth s) (value depth s) (Good depth)
  unfolding stands value
  pack-good a zero at e z v g t = scalar-good (head_at s at) _ _ z t at (head-bounded s a at) v e g
  pack-good a (suc d) at e z v g t = layer-good (stands MsgPack d s) (value d s) (Good d) (head-bounded s a) (keys-end d) (pack-good a d) at e z v g t
