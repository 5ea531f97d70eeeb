-- The grammar of RFC 8259, sections 2, 6 and 7, as sets of texts put together by concatenation, as its ABNF is: white space, numbers and
-- strings. Each name is the ABNF's. specs/Lex.antt says the same as places in a text; proofs/Tokens.antt proves that both agree.
use Rattle.std.specs.Prelude.{ℕ, ◌≤◌, List, [], ◌∷◌, ◌++◌, ◌⊎◌, ◌≡◌}
use Prim.Native.Char.{Char, code}
use Prim.Native.String.{String as Ascii, [] as []ˢ, ◌∷◌ as ◌∷ˢ◌}
use Rattle.seq.specs.Lists.{All, joined}

infixr 40 ◌·◌
infixr 30 ◌∪◌
-- ---- ABNF (RFC 5234)
-- a set of texts
abbrev pub Language : Type 1
Language = List ℕ → Type 0

-- this text alone
abbrev pub Is : List ℕ → Language
Is w t = t ≡ w

-- one byte that keeps a rule
abbrev pub Byte : (ℕ → Type 0) → Language
Byte P t = (b : ℕ) × P b × (t ≡ b ∷ [])

-- this character; one of a text's; one from the first to the last
abbrev pub Sign : Char → Language
Sign c t = t ≡ code c ∷ []

abbrev pub OneOf : Ascii → Language
OneOf []ˢ t = ⊥
OneOf (c ∷ˢ cs) t = Sign c t ⊎ OneOf cs t

abbrev pub Range : Char → Char → Language
Range c d = Byte λ b. (code c ≤ b) × (b ≤ code d)

-- a text of the first, then one of the second
abbrev pub ◌·◌ : Language → Language → Language
◌·◌ A B t = (a b : List ℕ) × (t ≡ a ++ b) × A a × B b

-- A / B
abbrev pub ◌∪◌ : Language → Language → Language
◌∪◌ A B t = A t ⊎ B t

-- [ A ]
abbrev pub Optional : Language → Language
Optional A t = (t ≡ []) ⊎ A t

-- *A, and 1*A
abbrev pub Many : Language → Language
Many A t = (ts : List (List ℕ)) × All A ts × (t ≡ joined (λ (part : List ℕ). part) ts)

abbrev pub OneOrMore : Language → Language
OneOrMore A = A · Many A

-- ---- section 2: insignificant white space
abbrev pub Ws : Language
Ws = Many (OneOf " \t\n\r")

-- ---- section 6: number = [ minus ] int [ frac ] [ exp ]
abbrev pub Digit : Language
Digit = Range "0" "9"

abbrev pub Int : Language
Int = Sign "0" ∪ (Range "1" "9" · Many Digit)

abbrev pub Frac : Language
Frac = Sign "." · OneOrMore Digit

abbrev pub Exp : Language
Exp = OneOf "eE" · Optional (OneOf "-+") · OneOrMore Digit

abbrev pub Number : Language
Number = Optional (Sign "-") · Int · Optional Frac · Optional Exp

-- ---- section 7: string = quotation-mark *char quotation-mark
-- %x20-21 / %x23-5B / %x5D-10FFFF, as bytes: that these are UTF-8 is judged apart (utf8/specs)
abbrev pub Unescaped : Language
Unescaped = Byte λ b. (0x20 ≤ b) × ¬ (b ≡ code "\"") × ¬ (b ≡ code "\\")

-- HEXDIG, of either case
abbrev pub Hex : Language
Hex = Digit ∪ Range "A" "F" ∪ Range "a" "f"

abbrev pub Escaped : Language
Escaped = Sign "\\" · (OneOf "\"\\/bfnrt" ∪ (Sign "u" · Hex · Hex · Hex · Hex))

abbrev pub String : Language
String = Sign "\"" · Many (Unescaped ∪ Escaped) · Sign "\""
