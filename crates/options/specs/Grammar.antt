-- Which values the options of PUBLISH have that choose an event's receivers, as sets of texts: JSON by its grammar (RFC 8259) and MessagePack by
-- its own table. specs/Audience.antt reads them; proofs/Grammar.antt proves that it reads these and no others.
use Rattle.std.specs.Prelude.{ℕ, ◌≤◌, List, [], ◌∷◌, Bool, true, false, ◌≡◌, length}
use Rattle.seq.specs.declared.Format.{Format, TheVariants.Json, TheVariants.MsgPack}
use Rattle.seq.specs.Bytes.{chars}
use Rattle.seq.specs.Decimal.{decimal}
use Rattle.seq.specs.Lists.{Both}
use Rattle.elements.specs.Grammar as Elements
use Rattle.arrays.specs.Grammar as Arrays

-- "IDs .. 1 to 2^53": digits, or an integer of any form
abbrev pub IdText : Format → ℕ → List ℕ → Type 0
IdText Json n t = (1 ≤ n) × (n ≤ 9007199254740992) × (t ≡ decimal n)
IdText MsgPack n t = Arrays.Id n t

-- one list of these elements and nothing else
abbrev pub ListOf : Format → List (List ℕ) → List ℕ → Type 0
ListOf Json elements t = Elements.ListOf elements t
ListOf MsgPack elements t = Arrays.ListOf elements t

-- "literally `true` or `false`, in MessagePack hex C3 or C2"
abbrev pub flag_text : Format → Bool → List ℕ
flag_text Json true = chars "true"
flag_text Json false = chars "false"
flag_text MsgPack true = 0xc3 ∷ []
flag_text MsgPack false = 0xc2 ∷ []

abbrev pub IsFlag : Format → Bool → List ℕ → Type 0
IsFlag f b t = t ≡ flag_text f b

-- "A list of at most 8 IDs": these, in this order
abbrev pub IsIds : Format → List ℕ → List ℕ → Type 0
IsIds f ids t = (length ids ≤ 8) × ((elements : List (List ℕ)) × Both (IdText f) ids elements × ListOf f elements t)
