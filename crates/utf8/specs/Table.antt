-- UTF-8 a second time, and not as the automaton of Utf8.antt: the table of RFC 3629, section 3, that takes a character's number to its bytes.
-- proofs/Table.antt proves that a text is well-formed exactly if its bytes are those of a list of characters.
use Rattle.std.specs.Prelude.{ℕ, ◌+◌, ◌/◌, ◌%◌, ◌≤◌, ◌<◌, List, [], ◌∷◌, cond, ◌⊎◌, ◌≡◌, ltb}
use Rattle.seq.specs.Lists.{All, joined}

-- a character's number: up to hex 10FFFF, and not one of D800 to DFFF, which are set apart for UTF-16
abbrev pub Scalar : ℕ → Type 0
Scalar n = (n < 0xd800) ⊎ ((0xdfff < n) × (n ≤ 0x10ffff))

-- the table's rows: 0xxxxxxx; 110xxxxx 10xxxxxx; 1110xxxx and two of 10xxxxxx; 11110xxx and three of them
unfoldable pub encoding : ℕ → List ℕ
encoding n =
    cond (ltb n 0x80) (n ∷ [])
    (cond (ltb n 0x800) ((0xc0 + n / 64) ∷ (0x80 + n % 64) ∷ [])
    (cond (ltb n 0x10000) ((0xe0 + n / 4096) ∷ (0x80 + n / 64 % 64) ∷ (0x80 + n % 64) ∷ [])
    ((0xf0 + n / 262144) ∷ (0x80 + n / 4096 % 64) ∷ (0x80 + n / 64 % 64) ∷ (0x80 + n % 64) ∷ [])))

-- the bytes are those of a list of characters
abbrev pub Encoded : List ℕ → Type 0
Encoded s = (cs : List ℕ) × All Scalar cs × (s ≡ joined encoding cs)
