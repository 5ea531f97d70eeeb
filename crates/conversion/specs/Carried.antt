-- A payload for its receiver (PROTOCOL, "Between the formats"): as it came within a format, converted across.
use Rattle.std.specs.Prelude.{ℕ, List, [], ◌∷◌, Some, None, Option}
use Rattle.seq.specs.declared.Format.{Format}
use Rattle.seq.specs.declared.Format.TheVariants.{Json, MsgPack}
use Rattle.seq.specs.declared.PayloadSpans.{PayloadSpans}
use Rattle.seq.specs.Bytes.{Payload, payload_of}
use Rattle.elements.specs.Elements.{inner_depth}
use Rattle.values.specs.Read.{Read}
use Rattle.values.specs.Read.Read.{Gives, Not}
use Rattle.conversion.specs.Converts.{convert}

-- the payload in the receiver's format; or it does not convert
pub data Carried : Type 0 where
  As : (payload : Payload) → Carried
  NotConvertible : Carried

-- by what a payload comes to
abbrev pub on_carried : {A : Type 0} → Carried → (Payload → A) → A → A
on_carried (As p) some none = some p
on_carried NotConvertible some none = none

-- with a value in front
abbrev pub ahead : Read (List ℕ) → Carried → Carried
ahead (Gives w e) (As p) = As (w ∷ p)
ahead (Gives w e) NotConvertible = NotConvertible
ahead Not rest = NotConvertible

-- "A payload converts if its list and, where it has one, its dict do": each value as an element of a message nests
unfoldable pub converted : Format → Format → Payload → Carried
converted f g [] = As []
converted f g (v ∷ vs) = ahead (convert f g inner_depth v 0) (converted f g vs)

-- from a sender's format to a receiver's
unfoldable pub carried : Format → Format → Payload → Carried
carried Json Json p = As p
carried MsgPack MsgPack p = As p
carried Json MsgPack p = converted Json MsgPack p
carried MsgPack Json p = converted MsgPack Json p

-- the payload whose values stand in `out` at the spans
abbrev pub carried_by : List ℕ → Option PayloadSpans → Carried
carried_by out (Some p) = As (payload_of out p)
carried_by out None = NotConvertible
