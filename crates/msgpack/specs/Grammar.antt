-- MessagePack by the format's own table of first bytes, as sets of texts: values to a depth. Each name is the table's. A byte is below 256.
-- specs/MsgPack.antt says the same as places in a text; proofs/Grammar.antt proves that both agree. No text here starts with hex C1, which
-- the format never uses.
use Rattle.std.specs.Prelude.{ℕ, zero, suc, ◌+◌, ◌*◌, ◌≤◌, List, [], ◌∷◌, ◌++◌, ◌⊎◌, ◌≡◌, length}
use Rattle.seq.specs.Lists.{All, Pairs, joined}
use Rattle.utf8.specs.Table.{Encoded}
use Rattle.lex.specs.Grammar.{Language, Is, Byte, ◌·◌, ◌∪◌}

-- ---- bytes
-- this byte
abbrev pub Code : ℕ → Language
Code b = Is (b ∷ [])

-- so many bytes, whatever they are
abbrev pub Any : ℕ → Language
Any n t = length t ≡ n

-- the number n in so many bytes, the high one first
abbrev pub Number : ℕ → ℕ → Language
Number zero n t = (n ≡ 0) × (t ≡ [])
Number (suc width) n t = (high low : ℕ) × (n ≡ high * 256 + low) × (Number width high · Code low) t

-- ---- heads that tell a number n: the first byte has it, up to the most that it can have, or it stands behind the first byte
abbrev pub Fix : ℕ → ℕ → ℕ → Language
Fix first most n t = (n ≤ most) × Code (first + n) t

-- fixstr A0 to BF, str 8, str 16, str 32
abbrev pub StrHead : ℕ → Language
StrHead n = Fix 0xa0 31 n ∪ Code 0xd9 · Number 1 n ∪ Code 0xda · Number 2 n ∪ Code 0xdb · Number 4 n

-- bin 8, bin 16, bin 32
abbrev pub BinHead : ℕ → Language
BinHead n = Code 0xc4 · Number 1 n ∪ Code 0xc5 · Number 2 n ∪ Code 0xc6 · Number 4 n

-- a first byte that stands for one number
abbrev pub Alone : ℕ → ℕ → ℕ → Language
Alone first number n t = (n ≡ number) × Code first t

-- ext 8, ext 16, ext 32; fixext 1, 2, 4, 8 and 16
abbrev pub ExtHead : ℕ → Language
ExtHead n =
    Code 0xc7 · Number 1 n ∪ Code 0xc8 · Number 2 n ∪ Code 0xc9 · Number 4 n
    ∪ Alone 0xd4 1 n ∪ Alone 0xd5 2 n ∪ Alone 0xd6 4 n ∪ Alone 0xd7 8 n ∪ Alone 0xd8 16 n

-- fixarray 90 to 9F, array 16, array 32
abbrev pub ArrayHead : ℕ → Language
ArrayHead n = Fix 0x90 15 n ∪ Code 0xdc · Number 2 n ∪ Code 0xdd · Number 4 n

-- fixmap 80 to 8F, map 16, map 32
abbrev pub MapHead : ℕ → Language
MapHead n = Fix 0x80 15 n ∪ Code 0xde · Number 2 n ∪ Code 0xdf · Number 4 n

-- ---- values that open no array and no map
-- nil, false, true
abbrev pub Simple : Language
Simple = Code 0xc0 ∪ Code 0xc2 ∪ Code 0xc3

-- positive fixint 00 to 7F, negative fixint E0 to FF; uint 8, 16, 32 and 64; int 8, 16, 32 and 64
abbrev pub Integer : Language
Integer =
    Byte (λ b. b ≤ 0x7f) ∪ Byte (λ b. 0xe0 ≤ b)
    ∪ Code 0xcc · Any 1 ∪ Code 0xcd · Any 2 ∪ Code 0xce · Any 4 ∪ Code 0xcf · Any 8
    ∪ Code 0xd0 · Any 1 ∪ Code 0xd1 · Any 2 ∪ Code 0xd2 · Any 4 ∪ Code 0xd3 · Any 8

-- float 32, float 64
abbrev pub Float : Language
Float = Code 0xca · Any 4 ∪ Code 0xcb · Any 8

-- n bytes; a byte for the type, and n bytes of data
abbrev pub Bin : Language
Bin t = (n : ℕ) × (BinHead n · Any n) t

abbrev pub Ext : Language
Ext t = (n : ℕ) × (ExtHead n · Any 1 · Any n) t

-- a str of these bytes; they are UTF-8
abbrev pub Str : List ℕ → Language
Str u = StrHead (length u) · Is u

abbrev pub Text : Language
Text t = (u : List ℕ) × Encoded u × Str u t

abbrev pub Scalar : Language
Scalar = Simple ∪ Integer ∪ Float ∪ Bin ∪ Ext ∪ Text

-- ---- arrays and maps
-- these elements, in this order
abbrev pub Array : Language → Language
Array Inner t =
    (elements : List (List ℕ)) × All Inner elements × (ArrayHead (length elements) · Is (joined (λ (e : List ℕ). e) elements)) t

pub record Pair : Type 0 where
  pub key : List ℕ
  pub value : List ℕ

abbrev pub IsPair : Language → Pair → Type 0
IsPair Inner p = Inner p.key × Inner p.value

-- two keys are no strs of the same bytes
abbrev pub Apart : Pair → Pair → Type 0
Apart p q = (u : List ℕ) → Str u p.key → ¬ Str u q.key

abbrev pub both : Pair → List ℕ
both p = p.key ++ p.value

-- these pairs, in this order
abbrev pub Map : Language → Language
Map Inner t = (ps : List Pair) × All (IsPair Inner) ps × Pairs Apart ps × (MapHead (length ps) · Is (joined both ps)) t

-- a value in which `depth` arrays and maps may be opened, one within the other
abbrev pub Value : ℕ → Language
Value zero t = Scalar t
Value (suc depth) t = Scalar t ⊎ Array (Value depth) t ⊎ Map (Value depth) t
