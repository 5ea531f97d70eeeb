-- Laws of a wildcard text that is walked along a URI, by the bytes that the two have in common. Assumes nothing.
use Prim.Native.Nat.{ℕ, zero, suc, ◌+◌, ◌-◌, ◌≤◌, ◌<◌}
use mathlib.Core.Bool.{Bool, true, false, cond, ◌&&◌}
use mathlib.Core.List.{List, [], ◌∷◌}
use mathlib.Core.Path.{◌≡◌, refl, sym, ap, ◌∙◌}
use native.Mathlib.Numerals.{add-one}
use native.Mathlib.Omega.{arith}
use borrow.Author.Tests.{eq-eqb, ne_eqb, le-leb, lt-ltb, eqb-true, ltb-true, ltb-false}
use lib.Dec.{eqb, ltb}
use lib.ListN.{length, take, drop, get_or, drop_of_length-le, length-drop}
use lib.Seq.{drop-cons, drop-drop}
use Rattle.std.specs.List.{prefix_len, zip}
use Rattle.seq.specs.Lists.{is_empty, first_part, rest_parts}
use Rattle.seq.specs.Bytes.{same}
use Rattle.seq.proofs.Logic.{split, clash, and_left, and_right}
use Rattle.seq.proofs.Lists.{rest-size}
use Rattle.uri.specs.Uri.{is_dot, components, part_end}
use Rattle.uri.specs.Components.{is_end, EndsOf, ends_before, end_at}
use Rattle.uri.proofs.Laws.{components_at, end-stop, end-past, end_after, end_short, part-empty}
use Rattle.uri.proofs.Places.{EndsFrom, ends-start, Reach, reach, before-most}
use Rattle.pattern.specs.Match.{covers, fits_parts}
use Rattle.pattern.specs.Along.{shared, is_start, is_open}
use Rattle.pattern.proofs.Laws.{fits_at, fits-start, fits-pass}

-- ---- the bytes in common
-- in the library's words: how many of the pairs of bytes, from the first on, are equal ones
pub shared-prefix : (a b : List ℕ) → shared a b ≡ prefix_len (λ (p : ℕ × ℕ). eqb p.0 p.1) (zip a b)
unfolding shared
shared-prefix [] b = refl
shared-prefix (x ∷ a) [] = refl
shared-prefix (x ∷ a) (y ∷ b) = ap (λ n. cond (eqb x y) n 0) (ap suc (shared-prefix a b) ∙ omega arith)

pub shared-short : (a b : List ℕ) → (shared a b ≤ length a) × (shared a b ≤ length b)
unfolding shared
shared-short [] b = (omega arith, omega arith)
shared-short (x ∷ a) [] = (omega arith, omega arith)
shared-short (x ∷ a) (y ∷ b) =
    let q = shared-short a b in
    split (eqb x y) (λ t. rw t (omega (arith, q.0), omega (arith, q.1))) (λ t. rw t (omega arith, omega arith))

-- behind them the two have none in common
shared-stops : (a b : List ℕ) → shared (drop (shared a b) a) (drop (shared a b) b) ≡ 0
unfolding shared
shared-stops [] b = refl
shared-stops (x ∷ a) [] = refl
shared-stops (x ∷ a) (y ∷ b) = split (eqb x y) (λ t. rw t (shared-stops a b)) (λ t. rw (t, t))

-- ---- two texts that fit, from where components start on (true), or from inside of components, of which the rest is the same
unfoldable fits_on : Bool → List ℕ → List ℕ → Bool
fits_on true a b = fits_parts (components a) (components b)
fits_on false a b = same (first_part is_dot a) (first_part is_dot b) && fits_parts (rest_parts is_dot a) (rest_parts is_dot b)

-- a byte in common is passed in both
on_step : (s : Bool) (x : ℕ) (a b : List ℕ) → fits_on s (x ∷ a) (x ∷ b) ≡ fits_on (is_dot x) a b
unfolding fits_on fits_parts covers same first_part rest_parts
on_step true x a b = split (is_dot x) (λ t. rw t) (λ t. rw (t, eq-eqb x x refl))
on_step false x a b = split (is_dot x) (λ t. rw t) (λ t. rw (t, eq-eqb x x refl))

-- whether a component starts behind n bytes
unfoldable after : Bool → List ℕ → ℕ → Bool
after s a zero = s
after s [] (suc n) = s
after s (x ∷ a) (suc n) = after (is_dot x) a n

on-run : (s : Bool) (a b : List ℕ) → fits_on s a b ≡ fits_on (after s a (shared a b)) (drop (shared a b) a) (drop (shared a b) b)
unfolding shared after
on-run s [] b = refl
on-run s (x ∷ a) [] = refl
on-run s (x ∷ a) (y ∷ b) =
    split (eqb x y)
    (λ t.
    let e : y ≡ x = sym (eqb-true x y t) in
    rw t (ap (λ z. fits_on s (x ∷ a) (z ∷ b)) e ∙ on_step s x a b ∙ on-run (is_dot x) a b))
    (λ t. rw t)

-- where there is none in common, and no empty component, the two fit exactly if both are at their ends
ended : List ℕ → Bool
ended [] = true
ended (x ∷ a) = is_dot x

differ : (x y : ℕ) (a b : List ℕ) → shared (x ∷ a) (y ∷ b) ≡ 0 → eqb x y ≡ false
unfolding shared
differ x y a b h = split (eqb x y) (λ t. absurd (omega (arith, rw t at h))) (λ t. t)

no-dot : (x : ℕ) → (is_dot x && true) ≡ false → is_dot x ≡ false
no-dot x h = split (is_dot x) (λ t. clash refl (rw t at h)) (λ t. t)

on-stop : (s : Bool) (a b : List ℕ) → shared a b ≡ 0 → (ended a && s) ≡ false → fits_on s a b ≡ (is_empty a && is_empty b)
unfolding fits_on fits_parts covers same first_part rest_parts ended
on-stop true [] b h k = clash refl k
on-stop false [] [] h k = refl
on-stop false [] (y ∷ b) h k = split (is_dot y) (λ t. rw t) (λ t. rw t)
on-stop true (x ∷ a) [] h k = rw (no-dot x k)
on-stop false (x ∷ a) [] h k = split (is_dot x) (λ t. rw t) (λ t. rw t)
on-stop true (x ∷ a) (y ∷ b) h k = split (is_dot y) (λ t. rw (no-dot x k, t)) (λ t. rw (no-dot x k, t, differ x y a b h))
on-stop false (x ∷ a) (y ∷ b) h k =
    split (is_dot x)
    (λ t.
    split (is_dot y)
    (λ q. clash (eq-eqb x y (eqb-true x 46 t ∙ sym (eqb-true y 46 q))) (differ x y a b h))
    (λ q. rw (t, q)))
    (λ t. split (is_dot y) (λ q. rw (t, q)) (λ q. rw (t, q, differ x y a b h)))

-- ---- the same at places of the two
start-after : (t : List ℕ) (n i : ℕ) → i + n ≤ length t → is_start t (i + n) ≡ after (is_start t i) (drop i t) n
unfolding after is_start
start-after t zero i h = let e : i + 0 ≡ i = omega arith in rw e
start-after t (suc n) i h =
    let e : i + suc n ≡ suc i + n = omega arith in
    rw (e, drop-cons t i 0 (omega arith)) (start-after t n (suc i) (omega arith))

end-ended : (t : List ℕ) (e : ℕ) → e ≤ length t → is_end t e ≡ ended (drop e t)
unfolding is_end ended
end-ended t e h =
    split (ltb e (length t))
    (λ q. rw (q, drop-cons t e 0 (ltb-true _ _ q)))
    (λ q.
    let l : length t ≤ e = ltb-false _ _ q in
    rw (q, drop_of_length-le t l, eq-eqb e (length t) (omega arith)))

empty-end : (t : List ℕ) (e : ℕ) → e ≤ length t → is_empty (drop e t) ≡ eqb e (length t)
empty-end t e h =
    split (ltb e (length t))
    (λ q.
    let l : e < length t = ltb-true _ _ q in
    rw (drop-cons t e 0 l, ne_eqb e (length t) (λ n. omega arith)))
    (λ q.
    let l : length t ≤ e = ltb-false _ _ q in
    rw (drop_of_length-le t l, eq-eqb e (length t) (omega arith)))

at_on : (t u : List ℕ) (i j : ℕ) → i ≤ length t → j ≤ length u → fits_at t i u j ≡ fits_on true (drop i t) (drop j u)
unfolding components_at fits_on
at_on t u i j h k = rw (le-leb i (length t) h, le-leb j (length u) k)

pub end_is : (t : List ℕ) (e : ℕ) → is_end t e ≡ true → (e ≤ length t) × (part_end t e ≡ e)
unfolding is_end
end_is t e h =
    split (ltb e (length t))
    (λ q. let l : e < length t = ltb-true _ _ q in (omega arith, end-stop t e l (rw q at h)))
    (λ q.
    let n : e ≡ length t = eqb-true e (length t) (rw q at h) in
    (omega arith, end-past t e (omega arith)))

pub start-behind : (t : List ℕ) (at : ℕ) → (at ≡ 0 → ⊥) → is_start t at ≡ is_dot (get_or t (at - 1) 0)
unfolding is_start
start-behind t zero n = absurd (n refl)
start-behind t (suc k) n = let e : suc k - 1 ≡ k = omega arith in rw e

-- a component starts behind an end
start-next : (t : List ℕ) (e : ℕ) → is_end t e ≡ true → e + 1 ≤ length t → is_start t (e + 1) ≡ true
unfolding is_end is_start
start-next t e h k = let l : ltb e (length t) ≡ true = lt-ltb e (length t) (omega arith) in rw (add-one) (rw l at h)

-- ---- for the loop, at components of both that start at i and j, with k of the URI's ends passed
pub record Walk (t u es : List ℕ) (i j k : ℕ) : Type 0 where
  pub fits : fits_parts (components t) (components u) ≡ fits_at t i u j
  pub start : i ≤ length t → is_start t i ≡ true
  pub passed : k ≤ length es
  pub left : (p : ℕ) × (p ≤ j) × EndsFrom u p (drop k es)

pub walk_start : (t u es : List ℕ) → EndsOf u es → Walk t u es 0 0 0
unfolding is_start
walk_start t u es h = record {
  fits = fits-start t u;
  start = λ _. refl;
  passed = omega arith;
  left = (0, omega arith, ends-start u es h);
}

-- the bytes in common from there on
abbrev shared_at : List ℕ → ℕ → List ℕ → ℕ → ℕ
shared_at t i u j = shared (take (length t - i) (drop i t)) (take (length u - j) (drop j u))

module _ {t u es : List ℕ} {i j k n : ℕ} (w : Walk t u es i j k) (h : i ≤ length t) (l : j ≤ length u) (c : n ≡ shared_at t i u j) where
  e : n ≡ shared (drop i t) (drop j u)
  e = rw (← rest-size i t, ← rest-size j u) c

  pub run-within : (i + n ≤ length t) × (j + n ≤ length u)
  run-within =
      let q = shared-short (drop i t) (drop j u) in
      (omega (arith, e, q.0, length-drop i t), omega (arith, e, q.1, length-drop j u))

  run : fits_parts (components t) (components u) ≡ fits_on (is_start t (i + n)) (drop (i + n) t) (drop (j + n) u)
  run =
      let s : is_start t (i + n) ≡ after true (drop i t) n = start-after t n i run-within.0 ∙ ap (λ b. after b (drop i t) n) (w.start h) in
      let r : fits_on true (drop i t) (drop j u) ≡ fits_on (after true (drop i t) n) (drop n (drop i t)) (drop n (drop j u)) =
      rw e (on-run true (drop i t) (drop j u)) in
      w.fits ∙ at_on t u i j h l ∙ (rw (s, ← drop-drop n i t, ← drop-drop n j u) r)

  pub walk-stop : is_open t (i + n) ≡ false
      → (eqb (i + n) (length t) && eqb (j + n) (length u)) ≡ fits_parts (components t) (components u)
  unfolding is_open
  walk-stop o =
      let d : shared (drop (i + n) t) (drop (j + n) u) ≡ 0 = rw (← drop-drop n i t, ← drop-drop n j u, e) (shared-stops (drop i t) (drop j u)) in
      let q : (ended (drop (i + n) t) && is_start t (i + n)) ≡ false = rw (← end-ended t (i + n) run-within.0) o in
      sym (run ∙ on-stop (is_start t (i + n)) (drop (i + n) t) (drop (j + n) u) d q
      ∙ rw (empty-end t (i + n) run-within.0, empty-end u (j + n) run-within.1))

  -- the empty component is passed, and the URI's with it
  module _ (o : is_open t (i + n) ≡ true) {m f : ℕ} (p : m ≡ k + ends_before (j + n) (drop k es)) (q : f ≡ end_at u es m (j + n)) where
    reached : Reach u es (j + n) m
    reached = rw p (reach u es k w.left.0 (j + n) w.passed w.left.2 (omega (arith, w.left.1)))

    told : f ≡ part_end u (j + n)
    told = q ∙ reached.told

    pub walk-within : f ≤ length u
    walk-within = omega (arith, told, end_short u (j + n) run-within.1)

    pub walk-on : Walk t u es (i + n + 1) (f + 1) m
    unfolding is_open covers
    walk-on =
        let ends : is_end t (i + n) ≡ true = and_left (is_end t (i + n)) (is_start t (i + n)) o in
        let starts : is_start t (i + n) ≡ true = and_right (is_end t (i + n)) (is_start t (i + n)) o in
        let here : part_end t (i + n) ≡ i + n = (end_is t (i + n) ends).1 in
        let any : covers (first_part is_dot (drop (i + n) t)) (first_part is_dot (drop (j + n) u)) ≡ true = rw (part-empty t (i + n) here) in
        let on : fits_at t (i + n) u (j + n) ≡ fits_at t (i + n + 1) u (f + 1) =
        fits-pass t u (i + n) (j + n) run-within.0 run-within.1 any ∙ rw (here, told) in
        record {
          fits = run ∙ ap (λ b. fits_on b (drop (i + n) t) (drop (j + n) u)) starts
              ∙ sym (at_on t u (i + n) (j + n) run-within.0 run-within.1) ∙ on;
          start = λ k. start-next t (i + n) ends k;
          passed = omega (arith, p, before-most (j + n) (drop k es), length-drop k es, w.passed);
          left = (reached.after.0, omega (arith, told, reached.after.1, end_after u (j + n)), reached.after.2);
        }
