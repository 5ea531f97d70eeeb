-- What the elements of a message's array are, and which texts are IDs, by the format's own table as sets of texts (msgpack/specs/Grammar.antt).
-- specs/Arrays.antt says the same as spans of the text and by heads; proofs/Grammar.antt proves that both agree.
use Rattle.std.specs.Prelude.{ℕ, ◌≤◌, ◌<◌, List, length}
use Rattle.seq.specs.Lists.{All, joined}
use Rattle.lex.specs.Grammar.{Language, Is, ◌·◌, ◌∪◌}
use Rattle.msgpack.specs.Grammar.{Code, Number, Fix, ArrayHead, Value}

-- one array of these elements, in this order, of so many bytes at most, and nothing behind it. PROTOCOL, "Sizes": depth 8 in all, the array
-- being depth 1
abbrev pub ListIn : ℕ → List (List ℕ) → Language
ListIn limit es s = (length s ≤ limit) × All (Value 7) es × (ArrayHead (length es) · Is (joined (λ (e : List ℕ). e) es)) s

-- a message taken in has at most 2,048 bytes
abbrev pub ListOf : List (List ℕ) → Language
ListOf es s = ListIn 2048 es s

-- ---- integers from 0 up
-- a signed form: its number n is below half of what so many bytes tell apart
abbrev pub Signed : ℕ → ℕ → ℕ → ℕ → Language
Signed first width half n t = (n < half) × (Code first · Number width n) t

-- the integer n: positive fixint 00 to 7F; uint 8, 16, 32 and 64; int 8, 16, 32 and 64
abbrev pub Whole : ℕ → Language
Whole n =
    Fix 0x00 127 n
    ∪ Code 0xcc · Number 1 n ∪ Code 0xcd · Number 2 n ∪ Code 0xce · Number 4 n ∪ Code 0xcf · Number 8 n
    ∪ Signed 0xd0 1 0x80 n ∪ Signed 0xd1 2 0x8000 n ∪ Signed 0xd2 4 0x80000000 n ∪ Signed 0xd3 8 0x8000000000000000 n

-- the ID n: an integer of any form, 1 to 2^53
abbrev pub Id : ℕ → Language
Id n t = (1 ≤ n) × (n ≤ 9007199254740992) × Whole n t
