-- Scalars: from what their parts are read as, to what they convert to. Assumes nothing.
use Rattle.std.specs.Prelude.{Option, Some, None}
use Prim.Native.Nat.{ℕ, zero, suc, ◌+◌, ◌-◌, ◌≤◌, ◌<◌}
use mathlib.Core.Bool.{true, false}
use mathlib.Core.List.{List, [], ◌∷◌}
use mathlib.Core.Path.{◌≡◌, refl, sym, ap, subst, ◌∙◌}
use native.Mathlib.Omega.{arith}
use borrow.Author.Tests.{ne_eqb, eq-eqb, lt-ltb, le-ltb, le-leb, lt-leb, ltb-true, ltb-false}
use lib.Dec.{eqb, ltb}
use lib.ListN.{length, take, drop, length-drop}
use Rattle.seq.specs.Bytes.{is_digit, chars, byte_at, part, same}
use Rattle.seq.proofs.Bytes.{digit-bounds}
use Rattle.seq.proofs.Logic.{split, clash, and_right}
use Rattle.lex.specs.Lex.{quoted}
use Rattle.strings.specs.Strings.{undone, has_lone}
use Rattle.json_text.specs.Json.{literal}
use Rattle.values.specs.Value.{Scalar}
use Rattle.values.specs.Value.Scalar.{Null, Flag, Whole, Below, Text}
use Rattle.values.specs.Read.{Read, made}
use Rattle.values.specs.Read.Read.{Gives, Not}
use Rattle.values.specs.Write.{pack_whole, pack_below, pack_text, pack_scalar}
use Rattle.values.specs.Stands.{quoted_at, whole_at, json_whole_at, json_below_at, word, json_scalar_at}
use Rattle.to_msgpack.specs.declared.Integer.{Integer}
use Rattle.to_msgpack.specs.Integers.{ending, small, Ends}

-- ---- integers: what an answer tells
abbrev is_there : Option Integer → ℕ
is_there (Some i) = 1
is_there None = 0

pub record There (r : Read ℕ) (n e : ℕ) : Type 0 where
  pub read : r ≡ Gives n e
  pub low : n < 0x10000000000000000

small_is : (r : Read ℕ) (i : Integer) → small r ≡ Some i → There r i.value i.end
small_is (Gives k z) i q =
    split (ltb k 0x10000000000000000)
    (λ t.
    let x : ◌≡◌ {A = Option Integer} (Some (ending k z)) (Some i) = rw t at q in
    let y : ending k z ≡ i = cc in
    let a : k ≡ i.value = ap (λ (j : Integer). j.value) y in
    let b : z ≡ i.end = ap (λ (j : Integer). j.end) y in
    record { read = rw (a, b); low = rw (sym a) (ltb-true k 0x10000000000000000 t) })
    (λ t. absurd (let x : ◌≡◌ {A = Option Integer} None (Some i) = rw t at q in let y = ap is_there x in omega arith))
small_is Not i q = absurd (let y = ap is_there q in omega arith)

-- none, or one of 2^64 and more
small-none : {A : Type 0} (r : Read ℕ) → small r ≡ None → (r ≡ Not → A) → ((n e : ℕ) → r ≡ Gives n e → 0x10000000000000000 ≤ n → A) → A
small-none (Gives k z) q none large =
    split (ltb k 0x10000000000000000)
    (λ t. absurd (let x : ◌≡◌ {A = Option Integer} (Some (ending k z)) None = rw t at q in let y = ap is_there x in omega arith))
    (λ t. large k z refl (ltb-false k 0x10000000000000000 t))
small-none Not q none large = none refl

module _ (s : List ℕ) (at : ℕ) (r : Option Integer) (h : r ≡ small (whole_at s at)) where
  pub whole-not : r ≡ None → json_whole_at s at ≡ Not
  unfolding json_whole_at
  whole-not q = small-none (whole_at s at) (sym h ∙ q) (λ x. rw x) (λ n e x l. rw (x, le-ltb n 0x10000000000000000 l))

  pub below-not : r ≡ None → json_below_at s at ≡ Not
  unfolding json_below_at
  below-not q = small-none (whole_at s at) (sym h ∙ q) (λ x. rw x)
      (λ n e x l. rw (x, ne_eqb n 0 (λ z. omega arith), lt-leb n 0x8000000000000000 (omega arith)))

  module _ (i : Integer) (q : r ≡ Some i) where
    pub whole-gives : json_whole_at s at ≡ Gives (Whole i.value) i.end
    unfolding json_whole_at
    whole-gives = let t = small_is (whole_at s at) i (sym h ∙ q) in rw (t.read, lt-ltb i.value 0x10000000000000000 t.low)

    pub below-zero : i.value ≡ 0 → json_below_at s at ≡ Gives (Whole 0) i.end
    unfolding json_below_at
    below-zero z = let t = small_is (whole_at s at) i (sym h ∙ q) in rw (t.read, eq-eqb i.value 0 z)

    pub below-far : 0x8000000000000000 < i.value → json_below_at s at ≡ Not
    unfolding json_below_at
    below-far l =
        let t = small_is (whole_at s at) i (sym h ∙ q) in
        rw (t.read, ne_eqb i.value 0 (λ z. omega arith), lt-leb i.value 0x8000000000000000 l)

    pub below-gives : (i.value ≡ 0 → ⊥) → i.value ≤ 0x8000000000000000 → json_below_at s at ≡ Gives (Below (i.value - 1)) i.end
    unfolding json_below_at
    below-gives z l = let t = small_is (whole_at s at) i (sym h ∙ q) in rw (t.read, ne_eqb i.value 0 z, le-leb i.value 0x8000000000000000 l)

-- ---- their bytes
pub scalar-whole : (n : ℕ) → pack_whole n ≡ pack_scalar (Whole n)
unfolding pack_scalar
scalar-whole n = refl

pub scalar_below : (n : ℕ) → pack_below n ≡ pack_scalar (Below n)
unfolding pack_scalar
scalar_below n = refl

pub scalar-text : (t : List ℕ) → pack_text t ≡ pack_scalar (Text t)
unfolding pack_scalar
scalar-text t = refl

pub scalar-yes : pack_scalar (Flag true) ≡ 0xc3 ∷ []
unfolding pack_scalar
scalar-yes = refl

pub scalar-no : pack_scalar (Flag false) ≡ 0xc2 ∷ []
unfolding pack_scalar
scalar-no = refl

pub scalar-null : pack_scalar Null ≡ 0xc0 ∷ []
unfolding pack_scalar
scalar-null = refl

-- ---- words
module _ (w : List ℕ) (v : Scalar) (s : List ℕ) (at : ℕ) where
  pub word-not : same (part at (at + length w) s) w ≡ false → word w v s at ≡ Not
  unfolding literal
  word-not e = rw e

  pub word-gives : same (part at (at + length w) s) w ≡ true → word w v s at ≡ Gives v (at + length w)
  unfolding literal
  word-gives e = rw e

-- a part that is cut is shorter than the word
same_length : (x y : List ℕ) → same x y ≡ true → length x ≡ length y
unfolding same
same_length [] [] h = refl
same_length [] (y ∷ ys) h = clash h refl
same_length (x ∷ xs) [] h = clash h refl
same_length (x ∷ xs) (y ∷ ys) h = ap suc (same_length xs ys (and_right (eqb x y) (same xs ys) h))

pub word_cut : (w s : List ℕ) (at : ℕ) → length s - at < length w → same (part at (at + length w) s) w ≡ false
word_cut w s at l = split (same (part at (at + length w) s) w)
    (λ t.
    absurd
    (let e = same_length (part at (at + length w) s) w t in
    let d = length-drop at s in
    let k = length-take-most (at + length w - at) (drop at s) in
    omega arith))
    (λ t. t)
  where
    length-take-most : (n : ℕ) (l : List ℕ) → length (take n l) ≤ length l
    length-take-most zero l = omega arith
    length-take-most (suc n) [] = omega arith
    length-take-most (suc n) (x ∷ l) = let r = length-take-most n l in omega arith

-- ---- strings
module _ (s : List ℕ) (at : ℕ) where
  pub text-none : quoted s at ≡ None → quoted_at s at ≡ Not
  unfolding quoted_at
  text-none e = rw e

  module _ (e : ℕ) (h : quoted s at ≡ Some e) (t : List ℕ) (q : t ≡ part (at + 1) (e - 1) s) where
    pub text-lone : has_lone t ≡ true → quoted_at s at ≡ Not
    unfolding quoted_at
    text-lone l = rw (h, sym q, l)

    pub text-gives : has_lone t ≡ false → quoted_at s at ≡ Gives (undone t) e
    unfolding quoted_at
    text-gives l = rw (h, sym q, l)

-- ---- a scalar by its first byte b
module _ (s : List ℕ) (at b : ℕ) (eb : b ≡ byte_at s at) where
  pub first-quote : b ≡ 34 → json_scalar_at s at ≡ made Text (quoted_at s at)
  unfolding json_scalar_at
  first-quote e = rw (sym eb, e)

  pub first-minus : b ≡ 45 → json_scalar_at s at ≡ json_below_at s (at + 1)
  unfolding json_scalar_at
  first-minus e = rw (sym eb, e)

  pub first-digit : 48 ≤ b → b ≤ 57 → json_scalar_at s at ≡ json_whole_at s at
  unfolding json_scalar_at
  first-digit l m = rw (sym eb, ne_eqb b 34 (λ e. omega arith), ne_eqb b 45 (λ e. omega arith), le-leb 48 b l, le-leb b 57 m)

  pub first-true : b ≡ 116 → json_scalar_at s at ≡ word (chars "true") (Flag true) s at
  unfolding json_scalar_at
  first-true e = rw (sym eb, e)

  pub first-false : b ≡ 102 → json_scalar_at s at ≡ word (chars "false") (Flag false) s at
  unfolding json_scalar_at
  first-false e = rw (sym eb, e)

  pub first-null : b ≡ 110 → json_scalar_at s at ≡ word (chars "null") Null s at
  unfolding json_scalar_at
  first-null e = rw (sym eb, e)

-- an integer ends where its answer says
pub ends_is : {r : Option Integer} (at n : ℕ) {i : Integer} → r ≡ Some i → Ends at n r → (at < i.end) × (i.end ≤ n)
ends_is at n q h = subst (λ (r : Option Integer). Ends at n r) q h

digit_not : (b : ℕ) → (48 ≤ b → b ≤ 57 → ⊥) → is_digit b ≡ false
digit_not b h = split (is_digit b) (λ t. let d = digit-bounds b t in absurd (h d.0 d.1)) (λ t. t)

-- no value starts with it
pub first-none : (s : List ℕ) (at b : ℕ) → b ≡ byte_at s at → (b ≡ 34 → ⊥) → (b ≡ 45 → ⊥) → ((48 ≤ b) → (b ≤ 57) → ⊥) → (b ≡ 116 → ⊥) → (b ≡ 102 → ⊥) → (b ≡ 110 → ⊥)
    → json_scalar_at s at ≡ Not
unfolding json_scalar_at
first-none s at b eb p q r t f n =
    rw (sym eb, ne_eqb b 34 p, ne_eqb b 45 q, digit_not b r, ne_eqb b 116 t, ne_eqb b 102 f, ne_eqb b 110 n)
