-- What a JSON string stands for, a second time, and not as Strings.antt reads it: which texts spell a character (RFC 8259, section 7), as
-- sets of texts put together by concatenation (lex/specs/Grammar.antt). A string stands for the characters that it spells;
-- proofs/Spelling.antt proves that it is undone to those.
use Rattle.std.specs.Prelude.{ℕ, ◌+◌, ◌*◌, ◌≤◌, ◌<◌, List, [], ◌∷◌, ◌⊎◌, ◌≡◌}
use Prim.Native.Char.{code}
use Rattle.seq.specs.Bytes.{byte_at, chars}
use Rattle.seq.specs.Lists.{In}
use Rattle.lex.specs.Grammar.{Language, Is, ◌·◌, ◌∪◌}
use Rattle.utf8.specs.Table.{Scalar, encoding}

-- ---- what is spelled: a character, or one half of a surrogate pair, which the grammar lets stand alone (section 8.2)
abbrev pub High : ℕ → Type 0
High c = (0xd800 ≤ c) × (c ≤ 0xdbff)

abbrev pub Low : ℕ → Type 0
Low c = (0xdc00 ≤ c) × (c ≤ 0xdfff)

abbrev pub Half : ℕ → Type 0
Half c = (0xd800 ≤ c) × (c ≤ 0xdfff)

-- ---- the spellings
-- RFC 8259, section 7, "All Unicode characters may be placed within the quotation marks, except for the characters that MUST be escaped:
-- quotation mark, reverse solidus, and the control characters (U+0000 through U+001F)"
abbrev pub AsItself : ℕ → Language
AsItself c t = Scalar c × (0x20 ≤ c) × ¬ (c ≡ code "\"") × ¬ (c ≡ code "\\") × (t ≡ encoding c)

-- RFC 8259, section 7, "two-character sequence escape representations of some popular characters": the second of the two, and the character
abbrev pub popular : List (ℕ × ℕ)
popular =
    (code "\"", 0x22)
    ∷ (code "\\", 0x5c)
    ∷ (code "/", 0x2f)
    ∷ (code "b", 0x08)
    ∷ (code "f", 0x0c)
    ∷ (code "n", 0x0a)
    ∷ (code "r", 0x0d)
    ∷ (code "t", 0x09)
    ∷ []

abbrev pub InTwo : ℕ → Language
InTwo c t = (b : ℕ) × In (b, c) popular × (t ≡ code "\\" ∷ b ∷ [])

-- a hexadecimal digit, by its number. RFC 8259, section 7, "The hexadecimal letters A through F can be uppercase or lowercase"
abbrev pub HexDigit : ℕ → Language
HexDigit n t = (n < 16) × ((t ≡ byte_at (chars "0123456789ABCDEF") n ∷ []) ⊎ (t ≡ byte_at (chars "0123456789abcdef") n ∷ []))

-- RFC 8259, section 7, "a reverse solidus, followed by the lowercase letter u, followed by four hexadecimal digits that encode the
-- character's code point"
abbrev pub InSix : ℕ → Language
InSix c t = (d₃ d₂ d₁ d₀ : ℕ) × (c ≡ d₃ * 4096 + d₂ * 256 + d₁ * 16 + d₀)
    × (Is (chars "\\u") · HexDigit d₃ · HexDigit d₂ · HexDigit d₁ · HexDigit d₀) t

-- RFC 8259, section 7, "To escape an extended character that is not in the Basic Multilingual Plane, the character is represented as a
-- 12-character sequence, encoding the UTF-16 surrogate pair"
abbrev pub InTwelve : ℕ → Language
InTwelve c t = (h l : ℕ) × (h < 0x400) × (l < 0x400) × (c ≡ 0x10000 + h * 0x400 + l) × (InSix (0xd800 + h) · InSix (0xdc00 + l)) t

abbrev pub Spells : ℕ → Language
Spells c = AsItself c ∪ InTwo c ∪ InSix c ∪ InTwelve c

-- ---- a text: its characters one after the other. A high half before a low one is none of them: the two are a character's pair
abbrev pub InTurn : List ℕ → Language
InTurn [] = Is []
InTurn (c ∷ cs) = Spells c · InTurn cs

abbrev pub NoPair : List ℕ → Type 0
NoPair [] = Unit {0}
NoPair (c ∷ []) = Unit {0}
NoPair (c ∷ (d ∷ ds)) = ¬ (High c × Low d) × NoPair (d ∷ ds)

abbrev pub SpellsAll : List ℕ → Language
SpellsAll cs t = NoPair cs × InTurn cs t
