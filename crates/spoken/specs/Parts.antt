-- The parts of a message as they are written in either format: no white space, the shortest forms (values/specs/Write.antt). A list and a dict
-- are made of parts that are written already.
use Rattle.std.specs.Prelude.{ℕ, ◌≤◌, ◌<◌, List, [], ◌∷◌}
use Rattle.seq.specs.declared.Format.{Format}
use Rattle.seq.specs.declared.Format.TheVariants.{Json, MsgPack}
use Rattle.seq.specs.Bytes.{Payload}
use Rattle.seq.specs.Lists.{All}
use Rattle.utf8.specs.Table.{Encoded}
use Rattle.values.specs.Value.{Member}
use Rattle.values.specs.Value.Scalar.{Whole, Text}
use Rattle.values.specs.Value.Layer.{Items, Members}
use Rattle.values.specs.Stands.{member}
use Rattle.values.specs.Write.{write_scalar, write_layer}
use Rattle.incoming.specs.Shapes.{IsPayload}

abbrev pub number : Format → ℕ → List ℕ
number f n = write_scalar f (Whole n)

abbrev pub string : Format → List ℕ → List ℕ
string f t = write_scalar f (Text t)

abbrev pub list : Format → List (List ℕ) → List ℕ
list f parts = write_layer f (λ (part : List ℕ). part) (Items parts)

abbrev pub dict : Format → List (Member (List ℕ)) → List ℕ
dict f members = write_layer f (λ (part : List ℕ). part) (Members members)

-- a dict of one member
abbrev pub single : Format → List ℕ → List ℕ → List ℕ
single f key value = dict f (member key value ∷ [])

-- ---- what may stand in a message
-- "IDs .. 1 to 2^53"
abbrev pub InRange : ℕ → Type 0
InRange n = (1 ≤ n) × (n ≤ 9007199254740992)

-- JSON is UTF-8 as a whole; of MessagePack each str is, as the grammar says. A byte is below 256
abbrev pub Formed : Format → List ℕ → Type 0
Formed Json t = Encoded t
Formed MsgPack t = All (λ b. b < 256) t

-- none, a list, or a list and a dict, in that format
abbrev pub Carried : Format → Payload → Type 0
Carried f p = IsPayload f p × All (Formed f) p
