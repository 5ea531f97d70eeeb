-- JSON: the reader of messages goes in step with what stands. Assumes nothing.
use Rattle.std.specs.Prelude.{Some, None, Option}
use Prim.Native.Nat.{ℕ, zero, suc, ◌+◌, ◌-◌}
use mathlib.Core.Bool.{true, false, cond, ◌||◌}
use mathlib.Core.List.{List, [], ◌∷◌}
use mathlib.Core.Path.{◌≡◌, refl, sym}
use native.Mathlib.Omega.{arith}
use borrow.Author.Tests.{eqb-true, ne_eqb}
use lib.Dec.{eqb, leb, ltb}
use lib.ListN.{length}
use Rattle.seq.specs.Bytes.{is, is_digit, chars, byte_at, part, among}
use Rattle.seq.specs.Lists.{All}
use Rattle.seq.specs.declared.Format.TheVariants.{Json}
use Rattle.seq.proofs.Bytes.{digit-bounds}
use Rattle.seq.proofs.Logic.{split, or-false}
use Rattle.lex.specs.declared.Mark.{Mark}
use Rattle.lex.specs.declared.Mark.TheVariants.{Item, End, Neither}
use Rattle.lex.specs.Lex.{and_then, integer, minus, fraction, exponent, number, quoted, close_list, close_dict, first, next, colon}
use Rattle.strings.specs.Strings.{has_lone}
use Rattle.json_text.specs.Json.{literal, follow, series as items_over, enclosed as list_over, key_from, members, braced, by_first, value}
use Rattle.elements.specs.Kinds.{decimal as natural}
use Rattle.values.specs.Value.{Scalar, Member, GoodScalar, GoodLayer, Good}
use Rattle.values.specs.Value.Scalar.{Null, Flag, Whole, Below, Text}
use Rattle.values.specs.Value.Layer.{Plain, Items, Members}
use Rattle.values.specs.Read.{Read, then, made, past}
use Rattle.values.specs.Read.Read.{Gives, Not}
use Rattle.values.specs.Stands.{member, quoted_at, whole_at, json_whole_at, json_below_at, json_scalar_at, onward, series, enclosed, json_member_at, json_layer_at, stands}
use Rattle.values.proofs.InStep.{Agree, agree-past, agree-made, agree-cons, New, new_none, agree-member}

-- ---- numbers
-- any value
abbrev Any : ℕ → Type 0
Any n = Unit {0}

-- what was read is taken as it is, as something else, or not at all
agree-pick : (f : ℕ → ℕ → Read Scalar) → ((n e : ℕ) → Agree GoodScalar (f n e) (Some e)) → (r : Read ℕ) (k : Option ℕ) → Agree Any r k
    → Agree GoodScalar (then r f) k
agree-pick f h (Gives n e) (Some z) q = rw (sym q) (h n e)
agree-pick f h (Gives n e) None q = absurd (q tt)
agree-pick f h Not k q = tt

module _ (s : List ℕ) where
  -- neither frac nor exp stands there
  number-ends : (e : ℕ) → (is "." (byte_at s e) || (is "e" (byte_at s e) || is "E" (byte_at s e))) ≡ false → and_then (fraction s e) (exponent s) ≡ Some e
  unfolding fraction exponent
  number-ends e t =
      let n = or-false (is "." (byte_at s e)) _ t in
      rw (n.0, n.1)

  digits-agree : (a : ℕ) (k : Option ℕ)
      → Agree Any
      (past k (λ e. cond (is "." (byte_at s e) || (is "e" (byte_at s e) || is "E" (byte_at s e))) Not (Gives (natural 0 (part a e s)) e)))
      (and_then k (λ i. and_then (fraction s i) (exponent s)))
  digits-agree a (Some e) =
      split (is "." (byte_at s e) || (is "e" (byte_at s e) || is "E" (byte_at s e))) (λ t. rw t tt) (λ t. rw (t, number-ends e t) refl)
  digits-agree a None = tt

  -- a number behind its sign
  whole_agree : (at a : ℕ) → minus s at ≡ a → Agree Any (whole_at s a) (number s at)
  unfolding whole_at number
  whole_agree at a e = rw e (digits-agree a (integer s a))

  minus-agree : (at : ℕ) → byte_at s at ≡ 45 → Agree GoodScalar (json_below_at s (at + 1)) (number s at)
  unfolding json_below_at minus
  minus-agree at e =
      agree-pick (λ n e. cond (eqb n 0) (Gives (Whole 0) e) (cond (leb n 0x8000000000000000) (Gives (Below (n - 1)) e) Not))
      (λ n e. split (eqb n 0) (λ t. rw t refl) (λ t. rw t (split (leb n 0x8000000000000000) (λ u. rw u refl) (λ u. rw u tt))))
      (whole_at s (at + 1)) (number s at) (whole_agree at (at + 1) (rw e))

  digit-agree : (at : ℕ) → is_digit (byte_at s at) ≡ true → Agree GoodScalar (json_whole_at s at) (number s at)
  unfolding json_whole_at minus
  digit-agree at e =
      let b = digit-bounds (byte_at s at) e in
      agree-pick (λ n e. cond (ltb n 0x10000000000000000) (Gives (Whole n) e) Not)
      (λ n e. split (ltb n 0x10000000000000000) (λ t. rw t refl) (λ t. rw t tt)) (whole_at s at) (number s at)
      (whole_agree at at (rw (ne_eqb (byte_at s at) 45 (λ q. omega arith))))

-- ---- strings
module _ (s : List ℕ) where
  abbrev Texts : List ℕ → Type 0
  Texts t = GoodScalar (Text t)

  quoted-ends : (at : ℕ) (k : Option ℕ)
      → Agree Texts (past k (λ e. cond (has_lone (part (at + 1) (e - 1) s)) Not (Gives (key_from s at e) e))) k
  quoted-ends at (Some e) = split (has_lone (part (at + 1) (e - 1) s)) (λ t. rw t tt) (λ t. rw t refl)
  quoted-ends at None = tt

  quoted-agree : (at : ℕ) → Agree Texts (quoted_at s at) (quoted s at)
  unfolding quoted_at
  quoted-agree at = quoted-ends at (quoted s at)

-- ---- scalars
module _ (s : List ℕ) (list dict : Option ℕ) (at : ℕ) where
  scalar-agree : is "[" (byte_at s at) ≡ false → is "{" (byte_at s at) ≡ false → Agree GoodScalar (json_scalar_at s at) (by_first list dict s at)
  unfolding json_scalar_at by_first
  scalar-agree l d =
      split (is "\"" (byte_at s at))
      (λ a. rw a (agree-made (Texts s) GoodScalar Text (λ t g. g) (quoted_at s at) (quoted s at) (quoted-agree s at)))
      (λ a. split (is "-" (byte_at s at)) (λ b. rw (a, l, d, b) (minus-agree s at (eqb-true (byte_at s at) 45 b)))
      (λ b. split (is_digit (byte_at s at)) (λ c. rw (a, l, d, b, c) (digit-agree s at c))
      (λ c. split (is "t" (byte_at s at))
      (λ t. rw (a, l, d, b, c, t) (agree-past GoodScalar (λ e. Flag true) (literal (chars "true") s at)))
      (λ t. split (is "f" (byte_at s at))
      (λ f. rw (a, l, d, b, c, t, f) (agree-past GoodScalar (λ e. Flag false) (literal (chars "false") s at)))
      (λ f. split (is "n" (byte_at s at))
      (λ n. rw (a, l, d, b, c, t, f, n) (agree-past GoodScalar (λ e. Null) (literal (chars "null") s at)))
      (λ n. rw (a, l, d, b, c, t, f, n) tt))))))

  -- a list or a dict is no scalar
  no-list : byte_at s at ≡ 91 → json_scalar_at s at ≡ Not
  unfolding json_scalar_at
  no-list e = rw e

  no_dict : byte_at s at ≡ 123 → json_scalar_at s at ≡ Not
  unfolding json_scalar_at
  no_dict e = rw e

  bottom-agree : Agree GoodScalar (json_scalar_at s at) (by_first list dict s at)
  bottom-agree =
      split (is "[" (byte_at s at)) (λ t. rw (no-list (eqb-true (byte_at s at) 91 t)) tt)
      (λ l. split (is "{" (byte_at s at)) (λ t. rw (no_dict (eqb-true (byte_at s at) 123 t)) tt) (λ d. scalar-agree l d))

-- ---- lists and dicts
agree-follow : {A : Type 0} (Q : List A → Type 0) (m : Mark) (more : ℕ → Read (List A)) (go : ℕ → Option ℕ) → ((a : ℕ) → Agree Q (more a) (go a))
    → Agree Q (onward m more) (follow m go)
agree-follow Q (Item a) more go h = h a
agree-follow Q (End e) more go h = refl
agree-follow Q Neither more go h = tt

module _ (s : List ℕ) {A : Type 0} (P : A → Type 0) (r : ℕ → Read A) (k : ℕ → Option ℕ) (h : (at : ℕ) → Agree P (r at) (k at)) where
  series-agree : (close fuel at : ℕ) → Agree (All P) (series r close fuel s at) (items_over k close fuel s at)
  unfolding series items_over
  series-agree close zero at = tt
  series-agree close (suc fuel) at =
      agree-cons P (λ e. onward (next close s e) (series r close fuel s)) (λ e. follow (next close s e) (items_over k close fuel s))
      (λ e. agree-follow (All P) (next close s e) (series r close fuel s) (items_over k close fuel s) (series-agree close fuel)) (r at) (k at) (h at)

  list-agree : (at : ℕ) → Agree (All P) (enclosed r close_list s at) (list_over k close_list s at)
  unfolding enclosed list_over
  list-agree at =
      agree-follow (All P) (first close_list s at) (series r close_list (length s) s) (items_over k close_list (length s) s)
      (series-agree close_list (length s))

  -- what follows a member, in the one and in the other
  abbrev others : ℕ → ℕ → Read (List (Member A))
  others fuel z = onward (next close_dict s z) (series (json_member_at r s) close_dict fuel s)

  abbrev others_over : List (List ℕ) → ℕ → ℕ → Option ℕ
  others_over seen fuel z = follow (next close_dict s z) (members k seen fuel s)

  -- behind a key, with the colon's end c
  colon-agree : (fuel : ℕ) (key : List ℕ) (seen : List (List ℕ)) → ((z : ℕ) → Agree (New P (key ∷ seen)) (others fuel z) (others_over (key ∷ seen) fuel z))
      → (c : Option ℕ)
      → Agree (New P seen) (then (past c (λ a. made (member key) (r a))) (λ m e. made (λ ms. m ∷ ms) (others fuel e)))
      (cond (among key seen) None (and_then c (λ v. and_then (k v) (others_over (key ∷ seen) fuel))))
  colon-agree fuel key seen go (Some a) =
      agree-member P key seen (others fuel) (others_over (key ∷ seen) fuel) go (r a) (k a) (h a)
  colon-agree fuel key seen go None = tt

  -- with the key's end c
  key-agree : (fuel at : ℕ) (seen : List (List ℕ))
      → ((seen : List (List ℕ)) (z : ℕ) → Agree (New P seen) (others fuel z) (others_over seen fuel z)) → (c : Option ℕ)
      → Agree (New P seen)
      (then (then (past c (λ e. cond (has_lone (part (at + 1) (e - 1) s)) Not (Gives (key_from s at e) e)))
      (λ key e. past (colon s e) (λ a. made (member key) (r a)))) (λ m e. made (λ ms. m ∷ ms) (others fuel e)))
      (and_then c (λ e. cond (among (key_from s at e) seen) None
      (and_then (colon s e) (λ v. and_then (k v) (others_over (key_from s at e ∷ seen) fuel)))))
  key-agree fuel at seen go (Some e) =
      split (has_lone (part (at + 1) (e - 1) s)) (λ t. rw t tt)
      (λ t. rw t (colon-agree fuel (key_from s at e) seen (go (key_from s at e ∷ seen)) (colon s e)))
  key-agree fuel at seen go None = tt

  members-agree : (fuel : ℕ) (seen : List (List ℕ)) (at : ℕ)
      → Agree (New P seen) (series (json_member_at r s) close_dict fuel s at) (members k seen fuel s at)
  unfolding series members json_member_at quoted_at
  members-agree zero seen at = tt
  members-agree (suc fuel) seen at =
      key-agree fuel at seen
      (λ seen z. agree-follow (New P seen) (next close_dict s z) (series (json_member_at r s) close_dict fuel s) (members k seen fuel s) (members-agree fuel seen))
      (quoted s at)

  dict-agree : (at : ℕ) → Agree (New P []) (enclosed (json_member_at r s) close_dict s at) (braced k s at)
  unfolding enclosed braced
  dict-agree at =
      agree-follow (New P []) (first close_dict s at) (series (json_member_at r s) close_dict (length s) s) (members k [] (length s) s)
      (members-agree (length s) [])

  abbrev over : ℕ → Option ℕ
  over at = by_first (list_over k close_list s (at + 1)) (braced k s (at + 1)) s at

  list-layer : (at : ℕ) → byte_at s at ≡ 91 → Agree (GoodLayer P) (json_layer_at r s at) (over at)
  unfolding json_layer_at by_first
  list-layer at e =
      rw e
      (agree-made (All P) (GoodLayer P) Items (λ vs g. g.1) (enclosed r close_list s (at + 1)) (list_over k close_list s (at + 1)) (list-agree (at + 1)))

  dict-layer : (at : ℕ) → byte_at s at ≡ 123 → Agree (GoodLayer P) (json_layer_at r s at) (over at)
  unfolding json_layer_at by_first
  dict-layer at e =
      rw e
      (agree-made (New P []) (GoodLayer P) Members (λ ms g. new_none P ms g.1 g.2) (enclosed (json_member_at r s) close_dict s (at + 1))
      (braced k s (at + 1)) (dict-agree (at + 1)))

  layer-agree : (at : ℕ) → Agree (GoodLayer P) (json_layer_at r s at) (over at)
  unfolding json_layer_at
  layer-agree at =
      split (is "[" (byte_at s at)) (λ t. list-layer at (eqb-true (byte_at s at) 91 t))
      (λ l. split (is "{" (byte_at s at)) (λ t. dict-layer at (eqb-true (byte_at s at) 123 t))
      (λ d. rw (l, d) (agree-made GoodScalar (GoodLayer P) Plain (λ v g. g) (json_scalar_at s at) (over at) (scalar-agree s _ _ at l d))))

pub json-agree : (s : List ℕ) (depth at : ℕ) → Agree (Good depth) (stands Json depth s at) (value depth s at)
unfolding stands value
json-agree s zero at = bottom-agree s _ _ at
json-agree s (suc d) at = layer-agree s (Good d) (stands Json d s) (value d s) (json-agree s d) at
