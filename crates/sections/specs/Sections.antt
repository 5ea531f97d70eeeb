-- What a message puts into an output (PROTOCOL, "Output layout"): its entry, its bytes; and the output of one message alone.
use Rattle.std.specs.Prelude.{ℕ, suc, ◌+◌, ◌%◌, Bool, cond, List, [], ◌∷◌, ◌++◌, leb, length, drop, Option}
use Rattle.seq.specs.Bytes.{Payload, source}
use Rattle.seq.specs.declared.PayloadSpans.{PayloadSpans}
use Rattle.conversion.specs.Carried.{on_carried}
use Rattle.conversion.specs.Sources.{Sources, carried_in}
use Rattle.outgoing.specs.Outgoing.{Outgoing, Event, render}
use Rattle.outgoing.specs.Layout.{Formats, be16}
use Rattle.replies.specs.Meaning.{details_of}
use Rattle.replies.specs.declared.EventReply.{EventReply}
use Rattle.buffer.specs.Capped.{capped}
use Rattle.sections.specs.declared.Section.{Section}
use Rattle.sections.specs.declared.Section.TheVariants.{Entries, Bodies}

-- what a message with these bytes puts into a section; a length stops at the largest number, and no output has room for such a message
abbrev pub put_in : Section → ℕ → List ℕ → List ℕ
put_in Entries slot text = slot % 256 ∷ be16 (capped (length text))
put_in Bodies slot text = text

-- what each slot of a set gets, from slot i on
unfoldable pub put_to_each : (ℕ → List ℕ) → ℕ → List Bool → List ℕ
put_to_each gets i [] = []
put_to_each gets i (b ∷ bs) = cond b (gets i ++ put_to_each gets (suc i) bs) (put_to_each gets (suc i) bs)

-- an event with a payload; the URI published is the text
abbrev pub event_of : Sources → EventReply → Payload → Outgoing
event_of m e payload = Event e.subscription e.publication (details_of (source m.message m.text) e.details) payload

-- an event with the payload of other spans
abbrev pub with_payload : EventReply → PayloadSpans → EventReply
with_payload e p = record { subscription = e.subscription; publication = e.publication; details = e.details; payload = p }

-- what an event puts into a section for a slot, with its payload in the slot's format; it passes over a slot that the payload does not convert for
abbrev pub event_in : Section → Formats → Sources → EventReply → Option PayloadSpans → ℕ → List ℕ
event_in s fs m e other slot = on_carried (carried_in m e.payload other (fs slot)) (λ p. put_in s slot (render (fs slot) (event_of m e p))) []

-- ---- how many bytes messages add to an output, each with its entry of 3 bytes
-- a message with these bytes
abbrev pub added : List ℕ → ℕ
added text = 3 + length text

-- an event, for a slot: nothing where it passes over the slot
abbrev pub event_adds : Formats → Sources → EventReply → Option PayloadSpans → ℕ → ℕ
event_adds fs m e other slot = on_carried (carried_in m e.payload other (fs slot)) (λ p. added (render (fs slot) (event_of m e p))) 0

-- what is counted for each slot of a set in all, from slot i on
unfoldable pub sizes : (ℕ → ℕ) → ℕ → List Bool → ℕ
sizes size i [] = 0
sizes size i (b ∷ bs) = cond b (size i + sizes size (suc i) bs) (sizes size (suc i) bs)

-- ---- outputs
-- the output of one message with these bytes: its count, its entry and itself
abbrev pub one_output : ℕ → List ℕ → List ℕ
one_output slot text = be16 1 ++ ((slot % 256 ∷ be16 (length text)) ++ text)

-- an output after writing: the bytes written, and those beyond their count as they were; all as they were where there is no room
abbrev pub outcome_bytes : List ℕ → List ℕ → List ℕ
outcome_bytes new old = cond (leb (length new) (length old)) (new ++ drop (length new) old) old
