-- What a step's messages are written from: the message taken in and its text, and the message's payload in the other format.
use Rattle.std.specs.Prelude.{ℕ, List, Option}
use Rattle.seq.specs.declared.Format.{Format}
use Rattle.seq.specs.declared.Format.TheVariants.{Json, MsgPack}
use Rattle.seq.specs.declared.PayloadSpans.{PayloadSpans}
use Rattle.seq.specs.Bytes.{Source, source, payload_of}
use Rattle.conversion.specs.Carried.{Carried, As, carried_by}

-- the format of the message, its bytes, the bytes that its payload was converted to, and its text with its escapes undone
pub record Sources : Type 0 where
  pub from : Format
  pub message : List ℕ
  pub converted : List ℕ
  pub text : List ℕ

abbrev pub sources : Format → List ℕ → List ℕ → List ℕ → Sources
sources from message converted text = record { from = from; message = message; converted = converted; text = text }

-- by whether a sender and a receiver speak one format
abbrev pub across : {A : Type 0} → Format → Format → A → A → A
across Json Json same other = same
across MsgPack MsgPack same other = same
across Json MsgPack same other = other
across MsgPack Json same other = other

-- what a message to a receiver of a format is written from
abbrev pub source_for : Sources → Format → Source
source_for m g = source (across m.from g m.message m.converted) m.text

-- a payload for a receiver of a format: as it came, or as it was converted
abbrev pub carried_in : Sources → PayloadSpans → Option PayloadSpans → Format → Carried
carried_in m p other g = across m.from g (As (payload_of m.message p)) (carried_by m.converted other)
