-- Laws of the elements of lists: of two lists one after the other, and of what a function gives for each element. Assumes nothing.
use mathlib.Core.List.{List, [], ◌∷◌, ◌++◌, map}
use mathlib.Core.Logic.{inl, inr}
use mathlib.Core.Path.{ap}
use Rattle.seq.specs.Lists.{All, Pairs, In}
use Rattle.seq.proofs.Rules.{all-image, all_both, all_append}

-- ---- one of the elements
module _ {A : Type 0} where
  pub in_left : (xs ys : List A) (a : A) → In a xs → In a (xs ++ ys)
  in_left [] ys a i = absurd i
  in_left (x ∷ xs) ys a (inl e) = inl e
  in_left (x ∷ xs) ys a (inr i) = inr (in_left xs ys a i)

  pub in_right : (xs ys : List A) (a : A) → In a ys → In a (xs ++ ys)
  in_right [] ys a i = i
  in_right (x ∷ xs) ys a i = inr (in_right xs ys a i)

  pub in_image : {B : Type 0} (g : A → B) (xs : List A) (a : A) → In a xs → In (g a) (map g xs)
  in_image g [] a i = absurd i
  in_image g (x ∷ xs) a (inl e) = inl (ap g e)
  in_image g (x ∷ xs) a (inr i) = inr (in_image g xs a i)

-- ---- every two elements
module _ {A : Type 0} (R : A → A → Type 0) where
  pub pairs-append : (xs ys : List A) → Pairs R xs → Pairs R ys → All (λ x. All (R x) ys) xs → Pairs R (xs ++ ys)
  pairs-append [] ys p q a = q
  pairs-append (x ∷ xs) ys p q a = (all_append (R x) xs ys p.0 a.0, pairs-append xs ys p.1 q a.1)

  pub images-apart : {B : Type 0} (P : A → Type 0) (S : B → B → Type 0) (g : A → B) → ((x y : A) → P x → P y → R x y → S (g x) (g y))
      → (xs : List A) → All P xs → Pairs R xs → Pairs S (map g xs)
  images-apart P S g h [] a r = tt
  images-apart P S g h (x ∷ xs) a r = (
    all-image (λ y. P y × R x y) (S (g x)) g (λ y (p, q). h x y a.0 p q) xs
        (all_both P (R x) (λ y. P y × R x y) (λ y p q. (p, q)) xs a.1 r.0),
    images-apart P S g h xs a.1 r.1,
  )
