-- Laws of texts, for loops that stand at place i of a text. Assumes nothing.
use Prim.Native.Nat.{ℕ, suc, ◌+◌, ◌-◌, ◌≤◌, ◌<◌}
use mathlib.Core.Bool.{Bool, true, false, not, cond}
use mathlib.Core.List.{List, [], ◌∷◌}
use mathlib.Core.Path.{◌≡◌, refl, sym, ap, ◌∙◌}
use native.Mathlib.Numerals.{add-one}
use native.Mathlib.Omega.{arith}
use borrow.Author.Tests.{eq-eqb, ne_eqb, le-leb, lt-leb, eqb-true, leb-true, leb-false}
use lib.Dec.{eqb, leb, leb-zero}
use lib.ListN.{length, take, drop, get_or, drop_of_length-le, length-drop}
use lib.Seq.{drop-cons, drop-drop}
use Rattle.std.specs.List.{prefix_len}
use denote.Enum.Bare.{sameb}
use Rattle.uri.specs.contracts.Policy.{the_type}
use Rattle.seq.specs.Lists.{every, is_empty, but_last, first_part, rest_parts, parts}
use Rattle.seq.specs.Bytes.{part}
use Rattle.seq.proofs.Logic.{split}
use Rattle.seq.proofs.Lists.{first-take, first_short, rest_more, rest-none, empty-length}
use Rattle.uri.specs.declared.Policy.{Policy}
use Rattle.uri.specs.declared.Policy.TheVariants.{Exact, Prefix, Wildcard}
use Rattle.uri.specs.Uri.{policy_no, same_policy, refused, is_dot, class_of, components, part_end, filled}

-- ---- policies
no_eq : {A : Type 0} (m n : ℕ) → eqb m n ≡ true → (m ≡ n → ⊥) → A
no_eq m n e h = absurd (h (eqb-true m n e))

pub policy-same : (p q : Policy) → same_policy p q ≡ true → p ≡ q
unfolding same_policy
policy-same Exact Exact e = refl
policy-same Exact Prefix e = no_eq 0 1 e (λ h. omega arith)
policy-same Exact Wildcard e = no_eq 0 2 e (λ h. omega arith)
policy-same Prefix Exact e = no_eq 1 0 e (λ h. omega arith)
policy-same Prefix Prefix e = refl
policy-same Prefix Wildcard e = no_eq 1 2 e (λ h. omega arith)
policy-same Wildcard Exact e = no_eq 2 0 e (λ h. omega arith)
policy-same Wildcard Prefix e = no_eq 2 1 e (λ h. omega arith)
policy-same Wildcard Wildcard e = refl

-- what `==` answers
pub same-is : {r : Bool} (p q : Policy) → r ≡ sameb the_type p q → r ≡ same_policy p q
unfolding same_policy
same-is Exact Exact e = e
same-is Exact Prefix e = e
same-is Exact Wildcard e = e
same-is Prefix Exact e = e
same-is Prefix Prefix e = e
same-is Prefix Wildcard e = e
same-is Wildcard Exact e = e
same-is Wildcard Prefix e = e
same-is Wildcard Wildcard e = e

pub policy-refl : (p : Policy) → same_policy p p ≡ true
unfolding same_policy
policy-refl p = eq-eqb (policy_no p) (policy_no p) refl

-- ---- byte classes
class-zero : (r : Bool) → ◌≡◌ {A = ℕ} (cond r 0 1) 0 → r ≡ true
class-zero true e = refl
class-zero false e = absurd (omega arith)

class-not-zero : (r : Bool) → (◌≡◌ {A = ℕ} (cond r 0 1) 0 → ⊥) → r ≡ false
class-not-zero true n = absurd (n refl)
class-not-zero false n = refl

pub is-refused : (b : ℕ) → class_of b ≡ 0 → refused b ≡ true
is-refused b e = class-zero (refused b) e

pub not-refused : (b : ℕ) → (class_of b ≡ 0 → ⊥) → refused b ≡ false
not-refused b n = class-not-zero (refused b) n

-- ---- where a component ends
-- the library's word for the length of the first component
pub length-first_part : (p : ℕ → Bool) (xs : List ℕ) → length (first_part p xs) ≡ prefix_len (λ x. not (p x)) xs
unfolding first_part
length-first_part p [] = refl
length-first_part p (x ∷ xs) = front (p x) x (first_part p xs) _ (length-first_part p xs)
  where
    front : (b : Bool) (x : ℕ) (ys : List ℕ) (n : ℕ) → length ys ≡ n → length (cond b [] (x ∷ ys)) ≡ cond (not b) (1 + n) 0
    front true x ys n e = refl
    front false x ys n e = omega (arith, e)

module _ (s : List ℕ) (i : ℕ) (h : i < length s) where
  pub end-stop : is_dot (get_or s i 0) ≡ true → part_end s i ≡ i
  unfolding part_end first_part
  end-stop t = rw (drop-cons s i 0 h, t) (omega arith)

  pub end-go : is_dot (get_or s i 0) ≡ false → part_end s i ≡ part_end s (i + 1)
  unfolding part_end first_part
  end-go t = rw (add-one, drop-cons s i 0 h, t) (omega arith)

pub end-past : (s : List ℕ) (i : ℕ) → length s ≤ i → part_end s i ≡ i
unfolding part_end first_part
end-past s i h = rw (drop_of_length-le s h) (omega arith)

pub end_after : (s : List ℕ) (i : ℕ) → i ≤ part_end s i
unfolding part_end
end_after s i = omega arith

pub end_short : (s : List ℕ) (i : ℕ) → i ≤ length s → part_end s i ≤ length s
unfolding part_end
end_short s i h = let q : length (first_part is_dot (drop i s)) ≤ length s - i = simp length-drop at (first_short is_dot (drop i s)) in omega arith

-- the bytes of the component that starts at i
pub part_bytes : (s : List ℕ) (i : ℕ) → first_part is_dot (drop i s) ≡ part i (part_end s i) s
unfolding part_end
part_bytes s i =
    let n : ℕ = length (first_part is_dot (drop i s)) in
    let q : i + n - i ≡ n = omega arith in
    first-take is_dot (drop i s) ∙ ap (λ m. take m (drop i s)) (sym q)

pub part-empty : (s : List ℕ) (i : ℕ) → part_end s i ≡ i → is_empty (first_part is_dot (drop i s)) ≡ true
unfolding part_end
part-empty s i e =
    let q : length (first_part is_dot (drop i s)) ≡ 0 = omega arith in
    empty-length (first_part is_dot (drop i s)) ∙ eq-eqb _ _ q

pub part_filled : (s : List ℕ) (i : ℕ) → (part_end s i ≡ i → ⊥) → is_empty (first_part is_dot (drop i s)) ≡ false
unfolding part_end
part_filled s i n =
    let q : length (first_part is_dot (drop i s)) ≡ 0 → ⊥ = λ e. n (omega arith) in
    empty-length (first_part is_dot (drop i s)) ∙ ne_eqb _ _ q

-- ---- components from a place on
-- the components that start at a place or after it; none past the end
unfoldable pub components_at : List ℕ → ℕ → List (List ℕ)
components_at s i = cond (leb i (length s)) (components (drop i s)) []

pub at-start : (s : List ℕ) → components_at s 0 ≡ components s
unfolding components_at
at-start s = rw (leb-zero (length s))

pub at-past : (s : List ℕ) (i : ℕ) → length s < i → components_at s i ≡ []
unfolding components_at
at-past s i h = rw (lt-leb i (length s) h)

-- the component that starts at i, and those after it
pub at-step : (s : List ℕ) (i : ℕ) → i ≤ length s → components_at s i ≡ first_part is_dot (drop i s) ∷ components_at s (part_end s i + 1)
unfolding components_at part_end
at-step s i h =
    let n : ℕ = length (first_part is_dot (drop i s)) in
    let l : length (drop i s) ≡ length s - i = length-drop i s in
    let k : n ≤ length (drop i s) = first_short is_dot (drop i s) in
    split (leb (i + n + 1) (length s))
    (λ t.
    let q : i + n + 1 ≤ length s = leb-true _ _ t in
    let r : rest_parts is_dot (drop i s) ≡ parts is_dot (drop (suc n) (drop i s)) = rest_more is_dot (drop i s) (omega arith) in
    let e : i + suc n ≡ i + n + 1 = omega arith in
    rw (le-leb i (length s) h, t, r, drop-drop (suc n) i s, e))
    (λ t.
    let q : length s < i + n + 1 = leb-false _ _ t in
    let r : rest_parts is_dot (drop i s) ≡ [] = rest-none is_dot (drop i s) (omega arith) in
    rw (le-leb i (length s) h, t, r))

-- ---- filled components
abbrev pub filled_parts : Bool → List (List ℕ) → Bool
filled_parts last_open cs = every (λ c. not (is_empty c)) (cond last_open (but_last cs) cs)

-- a component that is not empty is passed
pub filled-go : (o : Bool) (c : List ℕ) (cs : List (List ℕ)) → is_empty c ≡ false → filled_parts o (c ∷ cs) ≡ filled_parts o cs
unfolding every but_last
filled-go true c [] e = refl
filled-go true c (d ∷ cs) e = rw e
filled-go false c cs e = rw e

-- an empty one is refused, but for the last where that is open
pub filled-stop : (o : Bool) (c d : List ℕ) (cs : List (List ℕ)) → is_empty c ≡ true → filled_parts o (c ∷ d ∷ cs) ≡ false
unfolding every but_last
filled-stop true c d cs e = rw e
filled-stop false c d cs e = rw e

pub filled-last : (o : Bool) (c : List ℕ) → is_empty c ≡ true → filled_parts o (c ∷ []) ≡ o
unfolding every but_last
filled-last true c e = refl
filled-last false c e = rw e

pub filled_none : (o : Bool) → filled_parts o [] ≡ true
unfolding every but_last
filled_none true = refl
filled_none false = refl

pub filled-start : (o : Bool) (s : List ℕ) → filled o s ≡ filled_parts o (components_at s 0)
unfolding filled
filled-start o s = rw (at-start s)

pub filled-past : (o : Bool) (s : List ℕ) (i : ℕ) → length s < i → filled_parts o (components_at s i) ≡ true
filled-past o s i h = rw (at-past s i h) (filled_none o)

module _ (o : Bool) (s : List ℕ) (i : ℕ) (h : i ≤ length s) where
  pub filled-pass : (part_end s i ≡ i → ⊥) → filled_parts o (components_at s i) ≡ filled_parts o (components_at s (part_end s i + 1))
  filled-pass n = rw (at-step s i h) (filled-go o _ _ (part_filled s i n))

  pub filled-fail : part_end s i ≡ i → i < length s → filled_parts o (components_at s i) ≡ false
  filled-fail e k =
      let q : part_end s i + 1 ≤ length s = omega arith in
      rw (at-step s i h, at-step s (part_end s i + 1) q) (filled-stop o _ _ _ (part-empty s i e))

  pub filled-at-end : part_end s i ≡ i → length s ≤ i → filled_parts o (components_at s i) ≡ o
  filled-at-end e k =
      let q : length s < part_end s i + 1 = omega arith in
      rw (at-step s i h, at-past s _ q) (filled-last o _ (part-empty s i e))
