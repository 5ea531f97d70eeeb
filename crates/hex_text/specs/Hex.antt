-- Bytes in hex.
use Rattle.std.specs.Prelude.{ℕ, ◌+◌, ◌-◌, ◌*◌, ◌/◌, ◌%◌, Bool, cond, ◌&&◌, List, [], ◌∷◌, ◌++◌, eqb, ltb, length, take, drop}
use Rattle.seq.specs.Bytes.{byte_at, chars}
use Rattle.seq.specs.Lists.{every, joined}

-- the value of a hex digit, 0 to 9, A to F and a to f; 16 for any other byte
unfoldable pub hex_value : ℕ → ℕ
hex_value b =
    cond (ltb b 48) 16
    (cond (ltb b 58) (b - 48)
    (cond (ltb b 65) 16
    (cond (ltb b 71) (b - 55)
    (cond (ltb b 97) 16
    (cond (ltb b 103) (b - 87)
    16)))))

abbrev pub is_hex : ℕ → Bool
is_hex b = ltb (hex_value b) 16

-- the bytes that digits give, two a byte, up to the first that is no digit
unfoldable pub bytes_of : List ℕ → List ℕ
bytes_of [] = []
bytes_of (h ∷ []) = []
bytes_of (h ∷ (l ∷ rest)) = cond (is_hex h && is_hex l) ((hex_value h * 16 + hex_value l) ∷ bytes_of rest) []

-- digits that give whole bytes: an even number of them, and nothing else
unfoldable pub is_whole : List ℕ → Bool
is_whole s = eqb (length s % 2) 0 && every is_hex s

-- a buffer with a text at its start, as much of it as fits
unfoldable pub filled : List ℕ → List ℕ → List ℕ
filled buffer text = take (length buffer) text ++ drop (length text) buffer

-- ---- written
-- the digit of a value below 16; 0 for any other value
unfoldable pub hex_digit : ℕ → ℕ
hex_digit n = byte_at (chars "0123456789abcdef") n

-- the two digits of a byte
unfoldable pub hex_byte : ℕ → List ℕ
hex_byte b = hex_digit (b / 16) ∷ (hex_digit (b % 16) ∷ [])

-- the digits of bytes
abbrev pub hex_of : List ℕ → List ℕ
hex_of s = joined hex_byte s
