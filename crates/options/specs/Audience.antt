-- The options of PUBLISH that choose an event's receivers (PROTOCOL, "Taken in"): what each says, and how its value is read in either format. A
-- value is its bytes, [] where the option is absent.
use Rattle.std.specs.Prelude.{ℕ, List, [], ◌∷◌, map, Bool, true, false, not, cond, ◌&&◌, ◌||◌, length, eqb, leb}
use Rattle.seq.specs.declared.Format.{Format, TheVariants.Json, TheVariants.MsgPack}
use Rattle.seq.specs.declared.Span.{Span}
use Rattle.seq.specs.Bytes.{chars, text_of, same}
use Rattle.seq.specs.Lists.{every}
use Rattle.elements.specs.Kinds.{id_of}
use Rattle.elements.specs.Elements.{Items, Are, Not, outer}
use Rattle.arrays.specs.Arrays as Arrays

-- an option is absent, given, or wrong: given with a value that is not of its kind
pub data OptionValue (A : Type 0) : Type 0 where
  Absent Wrong : OptionValue A
  Given : (value : A) → OptionValue A

-- `exclude_me`, `exclude` and `eligible`
pub record Audience : Type 0 where
  pub exclude_me : OptionValue Bool
  pub exclude : OptionValue (List ℕ)
  pub eligible : OptionValue (List ℕ)

-- none of them is given
abbrev pub no_options : Audience
no_options = record { exclude_me = Absent; exclude = Absent; eligible = Absent }

-- ---- a boolean: literally true or false
abbrev pub bool_text : Format → Bool → List ℕ
bool_text Json true = chars "true"
bool_text Json false = chars "false"
bool_text MsgPack true = 0xc3 ∷ []
bool_text MsgPack false = 0xc2 ∷ []

unfoldable pub flag_of : Format → List ℕ → OptionValue Bool
flag_of f v =
    cond (eqb (length v) 0) Absent
    (cond (same v (bool_text f true)) (Given true)
    (cond (same v (bool_text f false)) (Given false)
    Wrong))

-- ---- a list of IDs
-- "A list of at most 8 IDs"
abbrev pub most_ids : ℕ
most_ids = 8

-- the elements of the list that a value is
abbrev pub items_of : Format → List ℕ → Items
items_of Json v = outer v
items_of MsgPack v = Arrays.outer v

-- the ID in an element, 0 if it is none
abbrev pub id_at : Format → List ℕ → Span → ℕ
id_at Json v p = id_of (text_of v p)
id_at MsgPack v p = Arrays.id_of (text_of v p)

abbrev pub is_id : ℕ → Bool
is_id n = not (eqb n 0)

-- the numbers of a list's elements: "Equal entries count each"
unfoldable pub listed : List ℕ → OptionValue (List ℕ)
listed ns = cond (leb (length ns) most_ids && every is_id ns) (Given ns) Wrong

abbrev pub ids_in : Format → List ℕ → Items → OptionValue (List ℕ)
ids_in f v (Are ps e) = listed (map (id_at f v) ps)
ids_in f v Not = Wrong

unfoldable pub ids_of : Format → List ℕ → OptionValue (List ℕ)
ids_of f v = cond (eqb (length v) 0) Absent (ids_in f v (items_of f v))

-- ---- what the options say of a session
-- its ID is in a list
unfoldable pub lists : ℕ → List ℕ → Bool
lists id [] = false
lists id (n ∷ ns) = eqb n id || lists id ns

-- `exclude_me` is literally false
abbrev pub keeps_me : OptionValue Bool → Bool
keeps_me Absent = false
keeps_me Wrong = false
keeps_me (Given b) = not b

-- `exclude` leaves nobody out where it is absent
abbrev pub excludes : OptionValue (List ℕ) → ℕ → Bool
excludes Absent id = false
excludes Wrong id = false
excludes (Given ids) id = lists id ids

-- `eligible` keeps the event to nobody in particular where it is absent
abbrev pub admits : OptionValue (List ℕ) → ℕ → Bool
admits Absent id = true
admits Wrong id = true
admits (Given ids) id = lists id ids

-- the options leave a session of this ID, which is the publisher's or not
unfoldable pub leaves : Audience → Bool → ℕ → Bool
leaves a own id = (not own || keeps_me a.exclude_me) && (not (excludes a.exclude id) && admits a.eligible id)

-- ---- one of them is wrong
abbrev pub is_wrong : {A : Type 0} → OptionValue A → Bool
is_wrong Absent = false
is_wrong Wrong = true
is_wrong (Given value) = false

unfoldable pub any_wrong : Audience → Bool
any_wrong a = is_wrong a.exclude_me || (is_wrong a.exclude || is_wrong a.eligible)
