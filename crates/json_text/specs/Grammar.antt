-- The grammar of RFC 8259, sections 2 to 5, as sets of texts: values to a depth, and JSON texts. The white space that the ABNF has within
-- `begin-array` and its like stands here beside the values, so that a value's text begins and ends with its own bytes. specs/Json.antt says
-- the same as places in a text; proofs/Grammar.antt proves that both agree.
use Rattle.std.specs.Prelude.{ℕ, zero, suc, List, [], ◌∷◌, map, ◌⊎◌, ◌≡◌}
use Prim.Native.Char.{Char}
use Rattle.seq.specs.Lists.{All, Pairs}
use Rattle.seq.specs.Bytes.{chars}
use Rattle.strings.specs.Strings.{meant}
use Rattle.lex.specs.Grammar.{Language, Is, Sign, ◌·◌, Ws, Number, String}

-- ---- sections 4 and 5: items, with a comma between two of them, in brackets or braces
-- what follows an item: the items that are left, and the closing byte
abbrev pub Rest : Char → List (List ℕ) → Language
Rest closing [] = Ws · Sign closing
Rest closing (t ∷ ts) = Ws · Sign "," · Ws · Is t · Rest closing ts

abbrev pub Enclosed : Char → Char → List (List ℕ) → Language
Enclosed opening closing [] = Sign opening · Ws · Sign closing
Enclosed opening closing (t ∷ ts) = Sign opening · Ws · Is t · Rest closing ts

-- array = begin-array [ value *( value-separator value ) ] end-array: these elements, in this order
abbrev pub Array : List (List ℕ) → Language
Array elements = Enclosed "[" "]" elements

-- member = string name-separator value; a key has both quotes
pub record Member : Type 0 where
  pub key : List ℕ
  pub value : List ℕ
  pub text : List ℕ

abbrev pub IsMember : Language → Member → Type 0
IsMember Inner m = String m.key × Inner m.value × (Is m.key · Ws · Sign ":" · Ws · Is m.value) m.text

-- object = begin-object [ member *( value-separator member ) ] end-object: these members, in this order. PROTOCOL, "Reading a message": no
-- two keys stand for the same text
pub record Object (Inner : Language) (members : List Member) (t : List ℕ) : Type 0 where
  pub each : All (IsMember Inner) members
  pub apart : Pairs (λ m n. ¬ (meant m.key ≡ meant n.key)) members
  pub whole : Enclosed "{" "}" (map (λ m. m.text) members) t

-- ---- section 3: value = false / null / true / object / array / number / string
abbrev pub Scalar : Language
Scalar t = (t ≡ chars "false") ⊎ (t ≡ chars "null") ⊎ (t ≡ chars "true") ⊎ Number t ⊎ String t

-- a value in which `depth` lists and dicts may be opened, one within the other
abbrev pub Value : ℕ → Language
Value zero t = Scalar t
Value (suc depth) t =
    Scalar t
    ⊎ ((members : List Member) × Object (Value depth) members t)
    ⊎ ((elements : List (List ℕ)) × All (Value depth) elements × Array elements t)

-- ---- section 2: JSON-text = ws value ws
abbrev pub Text : Language
Text = Ws · Value 8 · Ws
