-- The text that a JSON string stands for (RFC 8259, section 7). In the definitions t is what stands between the string's quotes: bytes that
-- stand for themselves, and escapes, each of which stands for its character, in UTF-8 (RFC 3629).
use Rattle.std.specs.Prelude.{ℕ, zero, suc, ◌+◌, ◌*◌, ◌-◌, List, [], ◌∷◌, ◌++◌, Bool, false, not, cond, ◌&&◌, ◌||◌, length, leb}
use Prim.Native.Char.{code}
use Rattle.seq.specs.Bytes.{is, between, is_digit, byte_at, part}
use Rattle.seq.specs.Lists.{every}
use Rattle.utf8.specs.Table.{encoding}
use Rattle.strings.specs.declared.Character.{Character}

-- ---- escapes
-- the number that a hexadecimal digit of either case stands for
unfoldable pub digit : ℕ → ℕ
digit b =
    cond (is_digit b) (b - code "0")
    (cond (between "A" "F" b) (b - code "A" + 10)
    (cond (between "a" "f" b) (b - code "a" + 10)
    0))

-- the number in the four digits from a place on
unfoldable pub unit : List ℕ → ℕ → ℕ
unit t at = ((digit (byte_at t at) * 16 + digit (byte_at t (at + 1))) * 16 + digit (byte_at t (at + 2))) * 16 + digit (byte_at t (at + 3))

-- the halves of a surrogate pair: the first is a high one, the second a low one
abbrev pub is_high : ℕ → Bool
is_high n = leb 0xd800 n && leb n 0xdbff

abbrev pub is_low : ℕ → Bool
is_low n = leb 0xdc00 n && leb n 0xdfff

abbrev pub is_half : ℕ → Bool
is_half n = leb 0xd800 n && leb n 0xdfff

-- the character that a pair stands for: one that is not in the Basic Multilingual Plane
abbrev pub pair : ℕ → ℕ → ℕ
pair high low = 0x10000 + (high - 0xd800) * 0x400 + (low - 0xdc00)

-- an escaped low half stands at a place
unfoldable pub low_at : List ℕ → ℕ → Bool
low_at t at = is "\\" (byte_at t at) && (is "u" (byte_at t (at + 1)) && is_low (unit t (at + 2)))

-- RFC 8259, section 7, "two-character sequence escape representations": the character, by the byte after the backslash
unfoldable pub short : ℕ → ℕ
short b = cond (is "b" b) 8 (cond (is "f" b) 12 (cond (is "n" b) 10 (cond (is "r" b) 13 (cond (is "t" b) 9 b))))

abbrev pub spelled : ℕ → ℕ → Character
spelled n len = record { code = n; len = len }

-- the escape at the head of t, whose first byte is a backslash: the character's number, and how many bytes spell it. A half that is in no
-- pair is its own number
unfoldable pub escape : List ℕ → Character
escape t =
    cond (is "u" (byte_at t 1))
    (cond (is_high (unit t 2) && low_at t 6) (spelled (pair (unit t 2) (unit t 8)) 12) (spelled (unit t 2) 6))
    (spelled (short (byte_at t 1)) 2)

-- ---- a string's text
-- behind the first n bytes of t, which belong to a character that was taken
unfoldable pub undone_after : ℕ → List ℕ → List ℕ
undone_after n [] = []
undone_after (suc n) (b ∷ t) = undone_after n t
undone_after zero (b ∷ t) =
    cond (is "\\" b)
    (encoding (escape (b ∷ t)).code ++ undone_after ((escape (b ∷ t)).len - 1) t)
    (b ∷ undone_after zero t)

-- the text that t stands for
abbrev pub undone : List ℕ → List ℕ
undone t = undone_after 0 t

-- a half that is in no pair stands in it
unfoldable pub lone_after : ℕ → List ℕ → Bool
lone_after n [] = false
lone_after (suc n) (b ∷ t) = lone_after n t
lone_after zero (b ∷ t) =
    cond (is "\\" b)
    (is_half (escape (b ∷ t)).code || lone_after ((escape (b ∷ t)).len - 1) t)
    (lone_after zero t)

abbrev pub has_lone : List ℕ → Bool
has_lone t = lone_after 0 t

-- no backslash stands in it
abbrev pub is_plain : List ℕ → Bool
is_plain t = every (λ b. not (is "\\" b)) t

-- what a string with both its quotes stands for
abbrev pub inner : List ℕ → List ℕ
inner s = part 1 (length s - 1) s

abbrev pub meant : List ℕ → List ℕ
meant s = undone (inner s)

-- ---- writing (PROTOCOL, "Sent"): a backslash before each quote and each backslash, and nothing else escaped
abbrev pub is_marked : ℕ → Bool
is_marked b = is "\"" b || is "\\" b

unfoldable pub escaped : List ℕ → List ℕ
escaped [] = []
escaped (b ∷ t) = cond (is_marked b) (code "\\" ∷ b ∷ escaped t) (b ∷ escaped t)
