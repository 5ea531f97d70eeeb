-- Laws of `capped`: sums that stop at the largest number. Assumes nothing.
use Prim.Native.Nat.{ℕ, ◌+◌, ◌≤◌, ◌<◌}
use mathlib.Core.Path.{◌≡◌, refl, ap, ◌∙◌}
use native.Mathlib.Omega.{arith}
use Rattle.buffer.specs.Capped.{capped, largest}

pub capped_is : (n : ℕ) → n ≤ largest → n ≡ capped n
unfolding capped
capped_is n h = omega arith

pub capped_le : (n : ℕ) → capped n ≤ n
unfolding capped
capped_le n = omega arith

pub capped-past : (n : ℕ) → largest < n → capped n ≡ largest
unfolding capped
capped-past n h = omega arith

-- below the largest number it is the sum itself
pub capped-exact : (n k : ℕ) → k ≡ capped n → k < largest → k ≡ n
unfolding capped
capped-exact n k e h = omega arith

-- a capped sum, and one more number
pub sum_more : (n l a c : ℕ) → n ≡ capped a → c ≡ a + l → capped (n + l) ≡ capped c
unfolding capped
sum_more n l a c p e = omega arith

-- two capped sums
pub sum-turn : (n l a b c : ℕ) → n ≡ capped a → l ≡ capped b → c ≡ a + b → capped (n + l) ≡ capped c
sum-turn n l a b c p q e =
    let swap : a + l ≡ l + a = omega arith in
    sum_more n l a (a + l) p refl ∙ ap capped swap ∙ sum_more l a b c q (omega arith)
