-- Bytes that stand in a text from a place on. Assumes nothing.
use Prim.Native.Nat.{ℕ, suc, ◌+◌, ◌-◌, ◌≤◌, ◌<◌}
use mathlib.Core.List.{List, [], ◌∷◌, ◌++◌}
use mathlib.Core.Path.{◌≡◌, refl, ap, subst}
use native.Mathlib.Numerals.{add-one}
use native.Mathlib.Omega.{arith}
use lib.ListN.{length, take, drop, length-append}
use lib.Seq.{drop-cons, get_or-append_seam}
use Rattle.seq.specs.Bytes.{byte_at, part}

-- the bytes w stand in s from a place on
abbrev pub Holds : List ℕ → ℕ → List ℕ → Type 0
Holds s at [] = at ≤ length s
Holds s at (b ∷ w) = (byte_at s at ≡ b) × (at < length s) × Holds s (at + 1) w

module _ (s : List ℕ) where
  pub holds-end : (at : ℕ) (w : List ℕ) → Holds s at w → at + length w ≤ length s
  holds-end at [] h = omega arith
  holds-end at (b ∷ w) h = let r = holds-end (at + 1) w h.2 in omega arith

  pub holds-start : (at : ℕ) (w : List ℕ) → Holds s at w → at ≤ length s
  holds-start at w h = let r = holds-end at w h in omega arith

  pub holds-left : (at : ℕ) (a b : List ℕ) → Holds s at (a ++ b) → Holds s at a
  holds-left at [] b h = holds-start at b h
  holds-left at (x ∷ a) b h = (h.0, h.1, holds-left (at + 1) a b h.2)

  pub holds-right : (at : ℕ) (a b : List ℕ) → Holds s at (a ++ b) → Holds s (at + length a) b
  holds-right at [] b h = let e : at + 0 ≡ at = omega arith in rw e h
  holds-right at (x ∷ a) b h =
      let e : at + suc (length a) ≡ at + 1 + length a = omega arith in rw e (holds-right (at + 1) a b h.2)

  pub holds-take : (at : ℕ) (w : List ℕ) → Holds s at w → take (length w) (drop at s) ≡ w
  holds-take at [] h = refl
  holds-take at (b ∷ w) h =
      rw (drop-cons s at 0 h.1, h.0) (ap (λ l. b ∷ l) (let r = holds-take (at + 1) w h.2 in rw (add-one at) at r))

  pub holds-part : (at : ℕ) (w : List ℕ) → Holds s at w → part at (at + length w) s ≡ w
  holds-part at w h = let e : at + length w - at ≡ length w = omega arith in rw e (holds-take at w h)

-- a text holds itself
holds-behind : (p w : List ℕ) → Holds (p ++ w) (length p) w
holds-behind p [] = simp length-append (omega arith)
holds-behind p (x ∷ w) =
    let l : length p < length (p ++ x ∷ w) = simp length-append (omega arith) in
    let q : Holds ((p ++ (x ∷ [])) ++ w) (length (p ++ (x ∷ []))) w = holds-behind (p ++ (x ∷ [])) w in
    let r : length (p ++ (x ∷ [])) ≡ length p + 1 = length-append p (x ∷ []) in
    (get_or-append_seam p x w 0, l, subst (λ n. Holds (p ++ x ∷ w) n w) r (subst (λ l. Holds l (length (p ++ (x ∷ []))) w) (regroup p x w) q))
  where
    regroup : (p : List ℕ) (x : ℕ) (w : List ℕ) → (p ++ (x ∷ [])) ++ w ≡ p ++ x ∷ w
    regroup [] x w = refl
    regroup (y ∷ p) x w = ap (λ l. y ∷ l) (regroup p x w)

pub holds-self : (w : List ℕ) → Holds w 0 w
holds-self w = holds-behind [] w
