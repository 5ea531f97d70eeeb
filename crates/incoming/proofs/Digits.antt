-- The kinds of a message's elements as decimal digits: the number of a shape stands for its kinds and no others. Assumes nothing.
use Prim.Native.Nat.{ℕ, ◌+◌, ◌*◌, ◌≤◌, ◌<◌}
use mathlib.Core.Bool.{Bool, true, false, cond, ◌&&◌}
use mathlib.Core.List.{List, [], ◌∷◌, map}
use mathlib.Core.Path.{◌≡◌, refl, ap₂}
use native.Mathlib.Omega.{arith}
use native.Mathlib.Decide.{dec_le}
use lib.Dec.{leb}
use borrow.Author.Tests.{leb-true}
use lib.ListN.{length}
use Rattle.seq.specs.Lists.{All}
use Rattle.seq.proofs.Logic.{and_left, and_right}
use Rattle.incoming.specs.Read.{shape_from, shape}

abbrev pub Digit : ℕ → Type 0
Digit n = (1 ≤ n) × (n ≤ 9)

-- digits that are written out
abbrev pub are_digits : List ℕ → Bool
are_digits [] = true
are_digits (n ∷ ns) = (leb 1 n && leb n 9) && are_digits ns

pub digits : (ns : List ℕ) → are_digits ns ≡ true → All Digit ns
digits [] e = tt
digits (n ∷ ns) e =
    let d = and_left (leb 1 n && leb n 9) (are_digits ns) e in
    ((leb-true 1 n (and_left (leb 1 n) (leb n 9) d), leb-true n 9 (and_right (leb 1 n) (leb n 9) d)), digits ns (and_right (leb 1 n && leb n 9) (are_digits ns) e))

-- a kind is one, by the tests that decide it
pub kind-digit : (a b c d : Bool) → Digit (cond a 2 (cond b 3 (cond c 4 (cond d 5 1))))
kind-digit true b c d = (omega arith, omega arith)
kind-digit false true c d = (omega arith, omega arith)
kind-digit false false true d = (omega arith, omega arith)
kind-digit false false false true = (omega arith, omega arith)
kind-digit false false false false = (omega arith, omega arith)

-- ---- numbers made of digits
grows : (v : ℕ) (xs : List ℕ) → v ≤ shape_from v xs
grows v [] = omega arith
grows v (x ∷ xs) = omega (arith, grows (v * 10 + x) xs)

-- what is smaller before no more digits stays smaller
smaller : (xs ys : List ℕ) (v w : ℕ) → length xs ≤ length ys → All Digit xs → All Digit ys → v < w → shape_from v xs < shape_from w ys
smaller [] ys v w l a b h = omega (arith, grows w ys)
smaller (x ∷ xs) [] v w l a b h = absurd (omega arith)
smaller (x ∷ xs) (y ∷ ys) v w l a b h =
    let p = a.0.1 in
    let q = b.0.0 in
    smaller xs ys (v * 10 + x) (w * 10 + y) (omega arith) a.1 b.1 (omega arith)

same_length : (xs ys : List ℕ) (v w : ℕ) → length xs ≡ length ys → All Digit xs → All Digit ys → shape_from v xs ≡ shape_from w ys
    → (v ≡ w) × (xs ≡ ys)
same_length [] [] v w l a b e = (e, refl)
same_length [] (y ∷ ys) v w l a b e = absurd (omega arith)
same_length (x ∷ xs) [] v w l a b e = absurd (omega arith)
same_length (x ∷ xs) (y ∷ ys) v w l a b e =
    let r = same_length xs ys (v * 10 + x) (w * 10 + y) (omega arith) a.1 b.1 e in
    let q = r.0 in
    let a₀ = a.0.0 in
    let a₉ = a.0.1 in
    let b₀ = b.0.0 in
    let b₉ = b.0.1 in
    let p : x ≡ y = omega arith in
    (omega arith, ap₂ ◌∷◌ p r.1)

shorter : (xs ys : List ℕ) → length xs < length ys → All Digit xs → All Digit ys → shape_from 0 xs < shape_from 0 ys
shorter xs [] l a b = absurd (omega arith)
shorter xs (y ∷ ys) l a b = let p = b.0.0 in smaller xs ys 0 (0 * 10 + y) (omega arith) a b.1 (omega arith)

-- a shape's number stands for one list of digits
shape-once : (xs ys : List ℕ) → All Digit xs → All Digit ys → shape xs ≡ shape ys → xs ≡ ys
shape-once xs ys a b e =
    elim (dec_le (length xs) (length ys)) [
      | yes l ↦ elim (dec_le (length ys) (length xs)) [
        | yes m ↦ (same_length xs ys 0 0 (omega arith) a b e).1
        | no m ↦ absurd (let h = shorter xs ys (omega arith) a b in omega arith)
      ]
      | no l ↦ absurd (let h = shorter ys xs (omega arith) b a in omega arith)
    ]

-- ---- the kinds of texts
module _ (kind : List ℕ → ℕ) (digit : (t : List ℕ) → Digit (kind t)) where
  all_digits : (ts : List (List ℕ)) → All Digit (map kind ts)
  all_digits [] = tt
  all_digits (t ∷ ts) = (digit t, all_digits ts)

  -- texts whose kinds have a shape's number
  pub kinds-are : (ts : List (List ℕ)) (ks : List ℕ) → All Digit ks → shape (map kind ts) ≡ shape ks → map kind ts ≡ ks
  kinds-are ts ks d e = shape-once (map kind ts) ks (all_digits ts) d e
