-- Which text is better: no tie between two texts that fit one URI, the order is transitive, and of two prefixes of one URI the longer has
-- no fewer components. Assumes nothing.
use Prim.Native.Nat.{ℕ, zero, suc, ◌≤◌, ◌<◌}
use mathlib.Core.Bool.{true, false, not}
use mathlib.Core.List.{List, [], ◌∷◌}
use mathlib.Core.Logic.{◌⊎◌, inl, inr, ⊎_elim}
use mathlib.Core.Path.{◌≡◌, refl, sym, ap, ◌∙◌}
use native.Mathlib.Omega.{arith}
use borrow.Author.Tests.{eq-eqb, ne_eqb, lt-ltb, le-ltb, eqb-true, ltb-true, ltb-false}
use lib.Dec.{eqb}
use lib.ListN.{length, take}
use Rattle.seq.specs.Lists.{is_empty, rest_parts}
use Rattle.seq.specs.Bytes.{same}
use Rattle.seq.proofs.Logic.{split, clash, and_left, and_right}
use Rattle.seq.proofs.Lists.{empty-is}
use Rattle.seq.proofs.Bytes.{same-eq, same_refl}
use Rattle.uri.specs.declared.Policy.{Policy}
use Rattle.uri.specs.declared.Policy.TheVariants.{Exact, Prefix, Wildcard}
use Rattle.uri.specs.Uri.{is_dot, components}
use Rattle.uri.proofs.Components.{components-injective}
use Rattle.pattern.specs.Match.{starts_with, covers, fits_parts, fits_text, counts, greater, beats_text, wins_text}
use Rattle.pattern.proofs.Counts.{wild-wild, literal-literal, wild-literal, literal-wild}
use Rattle.pattern.proofs.Laws.{beats-same}

-- ---- wildcards: no tie
covers-is : (c u : List ℕ) → is_empty c ≡ false → covers c u ≡ true → c ≡ u
unfolding covers
covers-is c u e h = same-eq c u (rw e at h)

-- equal components, or one of the two is better
Apart : List (List ℕ) → List (List ℕ) → Type 0
Apart cs ds = (cs ≡ ds) ⊎ (greater (counts cs) (counts ds) ≡ not (greater (counts ds) (counts cs)))

module _ (c d u : List ℕ) (cs ds : List (List ℕ)) (f : covers c u ≡ true) (g : covers d u ≡ true) where
  apart_cons : Apart cs ds → Apart (c ∷ cs) (d ∷ ds)
  unfolding Apart
  apart_cons r =
      split (is_empty c)
      (λ e.
      split (is_empty d)
      (λ h.
      let p : c ≡ d = empty-is c e ∙ sym (empty-is d h) in
      ⊎_elim (λ q. inl (cc)) (λ q. inr (rw (wild-wild c d cs ds e h, wild-wild d c ds cs h e) q)) r)
      (λ h. inr (rw (wild-literal c d cs ds e h, literal-wild d c ds cs h e))))
      (λ e.
      split (is_empty d)
      (λ h. inr (rw (literal-wild c d cs ds e h, wild-literal d c ds cs h e)))
      (λ h.
      let p : c ≡ d = covers-is c u e f ∙ sym (covers-is d u h g) in
      ⊎_elim (λ q. inl (cc)) (λ q. inr (rw (literal-literal c d cs ds e h, literal-literal d c ds cs h e) q)) r))

apart : (cs ds us : List (List ℕ)) → fits_parts cs us ≡ true → fits_parts ds us ≡ true → Apart cs ds
unfolding fits_parts Apart
apart [] [] us f g = inl refl
apart [] (d ∷ ds) [] f g = clash refl (sym g)
apart [] (d ∷ ds) (u ∷ us) f g = clash refl (sym f)
apart (c ∷ cs) [] [] f g = clash refl (sym f)
apart (c ∷ cs) [] (u ∷ us) f g = clash refl (sym g)
apart (c ∷ cs) (d ∷ ds) [] f g = clash refl (sym f)
apart (c ∷ cs) (d ∷ ds) (u ∷ us) f g =
    apart_cons c d u cs ds (and_left (covers c u) _ f) (and_left (covers d u) _ g)
    (apart cs ds us (and_right (covers c u) _ f) (and_right (covers d u) _ g))

-- of two different wildcard texts that fit one URI, exactly one is better
pub no_tie : (a b u : List ℕ) → fits_text Wildcard a u ≡ true → fits_text Wildcard b u ≡ true → (a ≡ b → ⊥) → beats_text a b ≡ not (beats_text b a)
unfolding fits_text beats_text Apart
no_tie a b u f g n =
    ⊎_elim (λ e. absurd (n (components-injective a b e))) (λ e. e) (apart (components a) (components b) (components u) f g)

-- ---- exact texts and prefixes
pub exact_one : (a b u : List ℕ) → fits_text Exact a u ≡ true → fits_text Exact b u ≡ true → a ≡ b
unfolding fits_text
exact_one a b u f g = same-eq a u f ∙ sym (same-eq b u g)

-- two prefixes of one URI of the same length are one text
pub one-prefix : (a b u : List ℕ) → fits_text Prefix a u ≡ true → fits_text Prefix b u ≡ true → length a ≡ length b → a ≡ b
unfolding fits_text starts_with
one-prefix a b u f g h = same-eq a _ f ∙ ap (λ n. take n u) h ∙ sym (same-eq b _ g)

-- more elements have no fewer parts
rest-grows : (s : List ℕ) (n m : ℕ) → n ≤ m → length (rest_parts is_dot (take n s)) ≤ length (rest_parts is_dot (take m s))
unfolding rest_parts
rest-grows [] zero zero h = omega arith
rest-grows [] zero (suc m) h = omega arith
rest-grows [] (suc n) zero h = omega arith
rest-grows [] (suc n) (suc m) h = omega arith
rest-grows (x ∷ s) zero m h = omega arith
rest-grows (x ∷ s) (suc n) zero h = absurd (omega arith)
rest-grows (x ∷ s) (suc n) (suc m) h =
    let k : length (rest_parts is_dot (take n s)) ≤ length (rest_parts is_dot (take m s)) = rest-grows s n m (omega arith) in
    split (is_dot x) (λ t. rw t (omega arith)) (λ t. rw t k)

-- of two prefixes of one URI, the one with more bytes has no fewer components
pub more_bytes :
    (a b u : List ℕ) → fits_text Prefix a u ≡ true → fits_text Prefix b u ≡ true → length a ≤ length b → length (components a) ≤ length (components b)
unfolding fits_text starts_with
more_bytes a b u f g h =
    let p : a ≡ take (length a) u = same-eq _ _ f in
    let q : b ≡ take (length b) u = same-eq _ _ g in
    let k : length (rest_parts is_dot (take (length a) u)) ≤ length (rest_parts is_dot (take (length b) u)) = rest-grows u (length a) (length b) h in
    let p' : length (rest_parts is_dot a) ≡ length (rest_parts is_dot (take (length a) u)) = ap (λ l. length (rest_parts is_dot l)) p in
    let q' : length (rest_parts is_dot b) ≡ length (rest_parts is_dot (take (length b) u)) = ap (λ l. length (rest_parts is_dot l)) q in
    omega arith

-- ---- the order
greater-trans : (xs ys zs : List ℕ) → greater xs ys ≡ true → greater ys zs ≡ true → greater xs zs ≡ true
unfolding greater
greater-trans [] ys zs p q = clash refl (sym p)
greater-trans (x ∷ xs) [] zs p q = clash refl (sym q)
greater-trans (x ∷ xs) (y ∷ ys) [] p q = refl
greater-trans (x ∷ xs) (y ∷ ys) (z ∷ zs) p q =
    split (eqb x y)
    (λ s.
    let e : x ≡ y = eqb-true x y s in
    split (eqb y z)
    (λ t.
    let f : y ≡ z = eqb-true y z t in
    rw (eq-eqb x z (omega arith)) (greater-trans xs ys zs (rw s at p) (rw t at q)))
    (λ t.
    let l : z < y = ltb-true z y (rw t at q) in
    let n : x ≡ z → ⊥ = λ w. omega arith in
    rw (ne_eqb x z n) (lt-ltb z x (omega arith))))
    (λ s.
    let k : y < x = ltb-true y x (rw s at p) in
    split (eqb y z)
    (λ t.
    let f : y ≡ z = eqb-true y z t in
    let n : x ≡ z → ⊥ = λ w. omega arith in
    rw (ne_eqb x z n) (lt-ltb z x (omega arith)))
    (λ t.
    let l : z < y = ltb-true z y (rw t at q) in
    let n : x ≡ z → ⊥ = λ w. omega arith in
    rw (ne_eqb x z n) (lt-ltb z x (omega arith))))

pub wins-trans : (p : Policy) (a b c : List ℕ) → wins_text p a b ≡ true → wins_text p b c ≡ true → wins_text p a c ≡ true
unfolding wins_text beats_text
wins-trans Exact a b c f g = f
wins-trans Prefix a b c f g =
    let h : length b < length a = ltb-true _ _ f in
    let k : length c < length b = ltb-true _ _ g in
    lt-ltb (length c) (length a) (omega arith)
wins-trans Wildcard a b c f g = greater-trans _ _ _ f g

-- no text wins over itself
pub wins-same : (p : Policy) (a : List ℕ) → wins_text p a a ≡ false
unfolding wins_text
wins-same Exact a = refl
wins-same Prefix a = le-ltb (length a) (length a) (omega arith)
wins-same Wildcard a = beats-same a

-- two texts that fit one URI, and neither wins over the other, are one text
pub wins-neither :
    (p : Policy) (a b u : List ℕ) → fits_text p a u ≡ true → fits_text p b u ≡ true → wins_text p a b ≡ false → wins_text p b a ≡ false → a ≡ b
unfolding wins_text
wins-neither Exact a b u f g h k = exact_one a b u f g
wins-neither Prefix a b u f g h k =
    let i : length a ≤ length b = ltb-false _ _ h in
    let j : length b ≤ length a = ltb-false _ _ k in
    one-prefix a b u f g (omega arith)
wins-neither Wildcard a b u f g h k =
    split (same a b)
    (λ s. same-eq a b s)
    (λ s. clash (no_tie a b u f g (λ e. clash (rw e (same_refl b)) s) ∙ ap not k) h)
