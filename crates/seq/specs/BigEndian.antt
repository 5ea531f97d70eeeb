-- Numbers as bytes, the high byte first, and bytes cut into rows.
use Rattle.std.specs.Prelude.{ℕ, zero, suc, ◌+◌, ◌*◌, ◌/◌, ◌%◌, List, [], ◌∷◌, ◌++◌, take, drop}
use Rattle.seq.specs.Bytes.{byte_at}

-- the number in the first n bytes
unfoldable pub number : ℕ → List ℕ → ℕ
number zero s = 0
number (suc n) s = number n s * 256 + byte_at s n

-- a number's n bytes
unfoldable pub digits : ℕ → ℕ → List ℕ
digits zero x = []
digits (suc n) x = digits n (x / 256) ++ (x % 256 ∷ [])

-- the first n rows of w bytes
unfoldable pub cut : ℕ → ℕ → List ℕ → List (List ℕ)
cut w zero s = []
cut w (suc n) s = take w s ∷ cut w n (drop w s)
