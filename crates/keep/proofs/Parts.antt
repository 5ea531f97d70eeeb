-- The parts of bytes one after the other: bytes put over a part, a row put over one of many, and every row changed. Assumes nothing.
use Prim.Native.Nat.{ℕ, zero, suc, ◌+◌, ◌*◌, ◌≤◌, ◌<◌}
use mathlib.Core.List.{List, [], ◌∷◌, ◌++◌, map, append_assoc}
use mathlib.Core.Path.{◌≡◌, refl, sym, ap, ap₂, ◌∙◌}
use native.Mathlib.Nat.{suc-mul, mul-le-mul_right}
use native.Mathlib.Omega.{arith}
use lib.ListN.{length, take, drop, set, length-append}
use lib.Seq.{take_at, drop_at, take-append-le, drop-append-le, take-append-add, drop-append-add}
use Rattle.seq.specs.Lists.{joined, All}
use Rattle.image.specs.Image.{cut, put}
use Rattle.image.proofs.Laws.{put_all}
use Rattle.keep.specs.Keep.{changed}

-- ---- bytes put within the first of two parts, or within the second
put-left : (a b c : List ℕ) (at : ℕ) → at + length c ≤ length a → put (a ++ b) at c ≡ put a at c ++ b
unfolding put
put-left a b c at h =
    rw (take-append-le at a b (omega arith), drop-append-le (at + length c) a b h)
    (simp append_assoc)

put_right : (a b c : List ℕ) (at p : ℕ) → p ≡ length a + at → put (a ++ b) p c ≡ a ++ put b at c
unfolding put
put_right a b c at p e =
    let q : length a + at + length c ≡ length a + (at + length c) = omega arith in
    rw (e, q, take-append-add a b at, drop-append-add a b (at + length c))
    (append_assoc a (take at b) (c ++ drop (at + length c) b))

-- a part in the place of one as long
pub put-part : (a b b' c : List ℕ) (p : ℕ) → length a ≡ p → length b' ≡ length b → put (a ++ (b ++ c)) p b' ≡ a ++ (b' ++ c)
put-part a b b' c p e l =
    put_right a (b ++ c) b' 0 p (omega arith)
    ∙ ap (λ x. a ++ x) (put-left b c b' 0 (omega arith) ∙ ap (λ x. x ++ c) (put_all b b' l))

-- ---- rows, whose bytes are w each
module _ {A : Type 0} (g : A → List ℕ) (w : ℕ) where
  abbrev pub Wide : A → Type 0
  Wide x = length (g x) ≡ w

  pub length-joined : (xs : List A) → All Wide xs → length (joined g xs) ≡ length xs * w
  length-joined [] z = omega arith
  length-joined (x ∷ xs) z =
      let e = z.0 in
      let r = length-joined xs z.1 in
      length-append (g x) (joined g xs) ∙ omega (arith, suc-mul (length xs) w)

  put-row : (xs : List A) (k : ℕ) (x : A) → All Wide xs → Wide x → k < length xs → put (joined g xs) (k * w) (g x) ≡ joined g (set xs k x)
  put-row [] k x z e h = absurd (omega arith)
  put-row (y ∷ xs) zero x z e h =
      let o : 0 * w ≡ 0 = omega arith in
      rw o (put-part [] (g y) (g x) (joined g xs) 0 refl (e ∙ sym z.0))
  put-row (y ∷ xs) (suc k) x z e h =
      let l = z.0 in
      put_right (g y) (joined g xs) (g x) (k * w) (suc k * w) (omega (arith, suc-mul k w))
      ∙ ap (λ r. g y ++ r) (put-row xs k x z.1 e (omega arith))

  -- one row of many, between parts
  pub put-between : (a c : List ℕ) (xs : List A) (k : ℕ) (x : A) (p at : ℕ) → length a ≡ at → p ≡ at + k * w → All Wide xs → Wide x → k < length xs
      → put (a ++ (joined g xs ++ c)) p (g x) ≡ a ++ (joined g (set xs k x) ++ c)
  put-between a c xs k x p at e q z s h =
      let l = length-joined xs z in
      let m : suc k * w ≤ length xs * w = mul-le-mul_right w h in
      let n = suc-mul k w in
      put_right a (joined g xs ++ c) (g x) (k * w) p (omega arith)
      ∙ ap (λ r. a ++ r) (put-left (joined g xs) c (g x) (k * w) (omega arith) ∙ ap (λ r. r ++ c) (put-row xs k x z s h))

  -- the rows' bytes, cut into rows
  pub cut-joined : (xs : List A) (q : List ℕ) → All Wide xs → cut w (length xs) (joined g xs ++ q) ≡ map g xs
  unfolding cut
  cut-joined [] q z = refl
  cut-joined (x ∷ xs) q z =
      rw (append_assoc (g x) (joined g xs) q, take_at (g x) (joined g xs ++ q) w z.0, drop_at (g x) (joined g xs ++ q) w z.0)
      (ap (λ l. g x ∷ l) (cut-joined xs q z.1))

-- ---- every row changed
-- f makes of a row's bytes those of what t makes of the row
pub record Follows {A : Type 0} (f : List ℕ → List ℕ) (g : A → List ℕ) (t : A → A) (w : ℕ) (x : A) : Type 0 where
  pub wide : length (g x) ≡ w
  pub next : length (g (t x)) ≡ w
  pub same : f (g x) ≡ g (t x)

module _ {A : Type 0} (f : List ℕ → List ℕ) (g : A → List ℕ) (t : A → A) (w : ℕ) where
  all-wide : (xs : List A) → All (Follows f g t w) xs → All (Wide g w) xs
  all-wide [] z = tt
  all-wide (x ∷ xs) z = (z.0.wide, all-wide xs z.1)

  all-next : (xs : List A) → All (Follows f g t w) xs → length (joined g (map t xs)) ≡ length (joined g xs)
  all-next [] z = refl
  all-next (x ∷ xs) z =
      let a = z.0.wide in
      let b = z.0.next in
      let r = all-next xs z.1 in
      length-append (g (t x)) (joined g (map t xs)) ∙ omega (arith, length-append (g x) (joined g xs))

  all_same : (xs : List A) → All (Follows f g t w) xs → joined f (map g xs) ≡ joined g (map t xs)
  all_same [] z = refl
  all_same (x ∷ xs) z = ap₂ ◌++◌ z.0.same (all_same xs z.1)

  pub changed-between : (n at : ℕ) (a c : List ℕ) (xs : List A) → length a ≡ at → length xs ≡ n → All (Follows f g t w) xs
      → changed f w n at (a ++ (joined g xs ++ c)) ≡ a ++ (joined g (map t xs) ++ c)
  unfolding changed
  changed-between n at a c xs e l z =
      rw (drop_at a (joined g xs ++ c) at e, ← l, cut-joined g w xs c (all-wide xs z), all_same xs z)
      (put-part a (joined g xs) (joined g (map t xs)) c at e (all-next xs z))
