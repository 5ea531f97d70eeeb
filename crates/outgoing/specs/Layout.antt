-- A step's output (PROTOCOL, "Output layout"): a 2-byte count, a 3-byte entry for each message, then the messages in the same order.
use Rattle.std.specs.Prelude.{ℕ, ◌/◌, ◌%◌, Bool, true, false, List, [], ◌∷◌, ◌++◌, length, get_or}
use Rattle.seq.specs.declared.Format.{Format}
use Rattle.seq.specs.declared.Format.TheVariants.{Json, MsgPack}
use Rattle.seq.specs.Lists.{joined}
use Rattle.outgoing.specs.Outgoing.{Outgoing, render}

-- a message and the slot it goes to
pub record Mail : Type 0 where
  pub to : ℕ
  pub message : Outgoing

-- in which format each slot is written to
abbrev pub Formats : Type 0
Formats = ℕ → Format

-- the format of a slot that speaks MessagePack, or does not
abbrev pub format_by : Bool → Format
format_by true = MsgPack
format_by false = Json

-- the formats of slots, by a list of those that speak MessagePack
abbrev pub formats_of : List Bool → Formats
formats_of packed slot = format_by (get_or packed slot false)

-- every slot is written to in JSON
abbrev pub all_json : Formats
all_json slot = Json

-- two bytes, big-endian
abbrev pub be16 : ℕ → List ℕ
be16 n = n / 256 % 256 ∷ n % 256 ∷ []

-- a message's bytes, in its receiver's format
unfoldable pub body : Formats → Mail → List ℕ
body formats m = render (formats m.to) m.message

-- the slot in one byte, of any number as in be16 (the hub's slots are below 8), and the length in 2 bytes
unfoldable pub entry : Formats → Mail → List ℕ
entry formats m = m.to % 256 ∷ be16 (length (render (formats m.to) m.message))

unfoldable pub layout : Formats → List Mail → List ℕ
layout formats ms = be16 (length ms) ++ (joined (entry formats) ms ++ joined (body formats) ms)
