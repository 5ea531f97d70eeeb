-- The places of a list whose elements pass a test, in rising order. Assumes nothing.
use Prim.Native.Nat.{ℕ, zero, suc, ◌+◌, ◌<◌}
use mathlib.Core.Path.{◌≡◌, refl, sym, subst}
use mathlib.Core.Logic.{◌⊎◌, inl, inr, ⊎_elim, ◌↔◌}
use mathlib.Core.Bool.{Bool, true, false, cond}
use mathlib.Core.List.{List, [], ◌∷◌, ◌++◌}
use native.Mathlib.Omega.{arith}
use lib.ListN.{length, get_or}
use Rattle.seq.specs.Lists.{All, Pairs}
use Rattle.seq.proofs.Logic.{split}
use Rattle.seq.proofs.Search.{pass-inside}
use Rattle.model.specs.Run.{In}

-- ---- an element of a list
module _ {A : Type 0} (a : A) where
  in_left : (xs ys : List A) → In a xs → In a (xs ++ ys)
  in_left [] ys i = absurd i
  in_left (x ∷ xs) ys (inl e) = inl e
  in_left (x ∷ xs) ys (inr i) = inr (in_left xs ys i)

  in_right : (xs ys : List A) → In a ys → In a (xs ++ ys)
  in_right [] ys i = i
  in_right (x ∷ xs) ys i = inr (in_right xs ys i)

  in_either : (xs ys : List A) → In a (xs ++ ys) → In a xs ⊎ In a ys
  in_either [] ys i = inr i
  in_either (x ∷ xs) ys (inl e) = inl (inl e)
  in_either (x ∷ xs) ys (inr i) = ⊎_elim (λ j. inl (inr j)) inr (in_either xs ys i)

  pub in-append : (xs ys : List A) → In a (xs ++ ys) ↔ (In a xs ⊎ In a ys)
  in-append xs ys = (in_either xs ys, ⊎_elim (in_left xs ys) (in_right xs ys))

-- ---- the places, counted from j, whose elements pass a test of place and element
unfoldable pub places : {A : Type 0} → (ℕ → A → Bool) → ℕ → List A → List ℕ
places p j [] = []
places p j (x ∷ xs) = cond (p j x) (j ∷ places p (suc j) xs) (places p (suc j) xs)

module _ {A : Type 0} (p : ℕ → A → Bool) (d : A) where
  places-above : (xs : List A) (n j : ℕ) → n < j → All (λ k. n < k) (places p j xs)
  unfolding places
  places-above [] n j l = tt
  places-above (x ∷ xs) n j l =
      split (p j x)
      (λ t. rw t (l, places-above xs n (suc j) (omega arith)))
      (λ t. rw t (places-above xs n (suc j) (omega arith)))

  pub places-rising : (xs : List A) (j : ℕ) → Pairs ◌<◌ (places p j xs)
  unfolding places
  places-rising [] j = tt
  places-rising (x ∷ xs) j =
      split (p j x)
      (λ t. rw t (places-above xs j (suc j) (omega arith), places-rising xs (suc j)))
      (λ t. rw t (places-rising xs (suc j)))

  -- k is the place of an element that passes
  abbrev PassesAt : List A → ℕ → ℕ → Type 0
  PassesAt xs j k = (m : ℕ) × (k ≡ j + m) × (m < length xs) × (p k (get_or xs m d) ≡ true)

  next_place : (x : A) (xs : List A) (j k : ℕ) → PassesAt xs (suc j) k → PassesAt (x ∷ xs) j k
  next_place x xs j k (m, e, l, t) = (suc m, omega arith, omega arith, t)

  in-places : (xs : List A) (j k : ℕ) → In k (places p j xs) → PassesAt xs j k
  unfolding places
  in-places [] j k = λ a. absurd a
  in-places (x ∷ xs) j k =
      split (p j x)
      (λ t. rw t (⊎_elim (λ e. (0, omega arith, omega arith, rw e t)) (λ a. next_place x xs j k (in-places xs (suc j) k a))))
      (λ t. rw t (λ a. next_place x xs j k (in-places xs (suc j) k a)))

  places-in : (xs : List A) (j m : ℕ) → m < length xs → p (j + m) (get_or xs m d) ≡ true → In (j + m) (places p j xs)
  unfolding places
  places-in [] j m l t = absurd (omega arith)
  places-in (x ∷ xs) j zero l t =
      let e : j + 0 ≡ j = omega arith in
      let u : p j x ≡ true = rw e at t in
      rw (u, e) (inl refl)
  places-in (x ∷ xs) j (suc m) l t =
      let e : j + suc m ≡ suc j + m = omega arith in
      let a : In (suc j + m) (places p (suc j) xs) = places-in xs (suc j) m (omega arith) (rw e at t) in
      rw e (split (p j x) (λ u. rw u (inr a)) (λ u. rw u a))

  -- the places of a whole list, whose default does not pass
  pub places-exactly : ((k : ℕ) → p k d ≡ false) → (xs : List A) (k : ℕ) → In k (places p 0 xs) ↔ (p k (get_or xs k d) ≡ true)
  places-exactly z xs k = (
    λ a. let (m, e, l, t) = in-places xs 0 k a in let q : k ≡ m = omega arith in subst (λ n. p k (get_or xs n d) ≡ true) (sym q) t,
    λ t. let q : 0 + k ≡ k = omega arith in rw q at (places-in xs 0 k (pass-inside (p k) d xs k (z k) t) (rw q t)),
  )
