-- Whole digits give a byte for every two of them, so that nothing is cut off; the digits of a byte give it back. Assumes nothing.
use mathlib.Core.Path.{◌≡◌, refl}
use Prim.Native.Nat.{ℕ, zero, suc, ◌*◌, ◌%◌}
use native.Mathlib.Omega.{arith}
use mathlib.Core.Bool.{true, ◌&&◌}
use mathlib.Core.List.{List, [], ◌∷◌}
use lib.Dec.{eqb}
use lib.ListN.{length}
use borrow.Author.Tests.{eqb-true}
use Rattle.seq.specs.Bytes.{chars}
use Rattle.seq.specs.Lists.{every}
use Rattle.seq.proofs.Logic.{and_left, and_right}
use Rattle.hex_text.specs.Hex.{hex_value, is_hex, is_whole, bytes_of, hex_digit, hex_byte, hex_of}

pairs : (s : List ℕ) → length s % 2 ≡ 0 → every is_hex s ≡ true → 2 * length (bytes_of s) ≡ length s
unfolding bytes_of every
pairs [] e h = refl
pairs (a ∷ []) e h = absurd (omega arith)
pairs (a ∷ (b ∷ s)) e h =
    let rest : (is_hex b && every is_hex s) ≡ true = and_right (is_hex a) (is_hex b && every is_hex s) h in
    let high : is_hex a ≡ true = and_left (is_hex a) (is_hex b && every is_hex s) h in
    let low : is_hex b ≡ true = and_left (is_hex b) (every is_hex s) rest in
    let r = pairs s (omega arith) (and_right (is_hex b) (every is_hex s) rest) in
    rw (high, low) (omega arith)

pub whole-bytes : (s : List ℕ) → is_whole s ≡ true → 2 * length (bytes_of s) ≡ length s
unfolding is_whole
whole-bytes s h = pairs s (eqb-true (length s % 2) 0 (and_left _ (every is_hex s) h)) (and_right (eqb (length s % 2) 0) _ h)

-- n numbers from a first one on
numbers : ℕ → ℕ → List ℕ
numbers zero from = []
numbers (suc n) from = from ∷ numbers n (suc from)

-- every byte, written and read
every_byte : bytes_of (hex_of (numbers 256 0)) ≡ numbers 256 0
unfolding hex_value bytes_of hex_digit hex_byte numbers
every_byte = refl

capitals : bytes_of (chars "c0FfeE") ≡ 0xC0 ∷ (0xFF ∷ (0xEE ∷ []))
unfolding hex_value bytes_of
capitals = refl
