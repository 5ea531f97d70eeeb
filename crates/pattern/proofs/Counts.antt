-- Which counts of literal components are greater, one component of each of two texts at a time. Assumes nothing.
use Prim.Native.Nat.{ℕ, suc, ◌≤◌, ◌<◌}
use mathlib.Core.Bool.{true, false}
use mathlib.Core.List.{List, [], ◌∷◌, map}
use mathlib.Core.Path.{◌≡◌, refl}
use native.Mathlib.Omega.{arith}
use borrow.Author.Tests.{eq-eqb, ne_eqb, lt-ltb, le-ltb, eqb-true, eqb-false, ltb-true, ltb-false}
use lib.Dec.{eqb, ltb}
use lib.ListN.{length}
use Rattle.seq.specs.Lists.{is_empty, first_part, rest_parts}
use Rattle.seq.proofs.Logic.{split}
use Rattle.pattern.specs.Match.{counts, greater}

-- ---- the counts of components, of which the first is a wildcard or a literal
counts-wild : (c : List ℕ) (cs : List (List ℕ)) → is_empty c ≡ true → counts (c ∷ cs) ≡ 0 ∷ counts cs
unfolding counts first_part rest_parts
counts-wild c cs e = rw e

-- one literal component more in the first count
abbrev counts_after : List (List ℕ) → List ℕ
counts_after cs = suc (length (first_part is_empty cs)) ∷ map length (rest_parts is_empty cs)

counts-literal : (c : List ℕ) (cs : List (List ℕ)) → is_empty c ≡ false → counts (c ∷ cs) ≡ counts_after cs
unfolding counts first_part rest_parts
counts-literal c cs e = rw e

counts-none : counts [] ≡ 0 ∷ []
unfolding counts first_part rest_parts
counts-none = refl

counts-cons : (cs : List (List ℕ)) → counts cs ≡ length (first_part is_empty cs) ∷ map length (rest_parts is_empty cs)
unfolding counts
counts-cons cs = refl

-- one more on both sides changes nothing
greater-suc : (x y : ℕ) (xs ys : List ℕ) → greater (suc x ∷ xs) (suc y ∷ ys) ≡ greater (x ∷ xs) (y ∷ ys)
unfolding greater
greater-suc x y xs ys =
    split (eqb x y)
    (λ t. let e : x ≡ y = eqb-true x y t in rw (t, eq-eqb (suc x) (suc y) (omega arith)))
    (λ t.
    let n : suc x ≡ suc y → ⊥ = λ e. eqb-false x y t (omega arith) in
    rw (t, ne_eqb (suc x) (suc y) n)
    (split (ltb y x)
    (λ l. let h : y < x = ltb-true y x l in rw (l, lt-ltb (suc y) (suc x) (omega arith)))
    (λ l. let h : x ≤ y = ltb-false y x l in rw (l, le-ltb (suc y) (suc x) (omega arith)))))

module _ (c d : List ℕ) (cs ds : List (List ℕ)) where
  pub wild-wild : is_empty c ≡ true → is_empty d ≡ true → greater (counts (c ∷ cs)) (counts (d ∷ ds)) ≡ greater (counts cs) (counts ds)
  unfolding greater
  wild-wild e f = rw (counts-wild c cs e, counts-wild d ds f)

  pub literal-literal : is_empty c ≡ false → is_empty d ≡ false → greater (counts (c ∷ cs)) (counts (d ∷ ds)) ≡ greater (counts cs) (counts ds)
  literal-literal e f = rw (counts-literal c cs e, counts-literal d ds f, counts-cons cs, counts-cons ds) (greater-suc _ _ _ _)

  pub wild-literal : is_empty c ≡ true → is_empty d ≡ false → greater (counts (c ∷ cs)) (counts (d ∷ ds)) ≡ false
  unfolding greater
  wild-literal e f =
      rw (counts-wild c cs e, counts-literal d ds f, ne_eqb 0 (suc (length (first_part is_empty ds))) (λ q. omega arith))
      (le-ltb (suc (length (first_part is_empty ds))) 0 (omega arith))

  pub literal-wild : is_empty c ≡ false → is_empty d ≡ true → greater (counts (c ∷ cs)) (counts (d ∷ ds)) ≡ true
  unfolding greater
  literal-wild e f =
      rw (counts-literal c cs e, counts-wild d ds f, ne_eqb (suc (length (first_part is_empty cs))) 0 (λ q. omega arith))
      (lt-ltb 0 (suc (length (first_part is_empty cs))) (omega arith))

-- one text has no component left
pub more-none : (c : List ℕ) (cs : List (List ℕ)) → greater (counts (c ∷ cs)) (counts []) ≡ true
unfolding greater
more-none c cs =
    split (is_empty c)
    (λ e. rw (counts-none, counts-wild c cs e, counts-cons cs))
    (λ e.
    rw (counts-none, counts-literal c cs e, ne_eqb (suc (length (first_part is_empty cs))) 0 (λ q. omega arith))
    (lt-ltb 0 (suc (length (first_part is_empty cs))) (omega arith)))

pub none_any : (ds : List (List ℕ)) → greater (counts []) (counts ds) ≡ false
unfolding greater
none_any ds =
    split (eqb 0 (length (first_part is_empty ds)))
    (λ e. rw (counts-none, counts-cons ds, e))
    (λ e. rw (counts-none, counts-cons ds, e) (le-ltb (length (first_part is_empty ds)) 0 (omega arith)))

-- no counts are greater than themselves
pub greater-same : (xs : List ℕ) → greater xs xs ≡ false
unfolding greater
greater-same [] = refl
greater-same (x ∷ xs) = rw (eq-eqb x x refl) (greater-same xs)
