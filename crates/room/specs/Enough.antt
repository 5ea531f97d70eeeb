-- How much output a step can need: the room that hosts are told to lend (include/hub.h). Proved for every hub of the code's sizes (`Sized`),
-- step and room.
use Rattle.std.specs.Prelude.{ℕ, ◌+◌, ◌*◌, ◌^◌, ◌≤◌, ◌<◌, ◌≡◌, Bool, List}
use Rattle.seq.specs.Bytes.{Payload}
use Rattle.options.specs.Audience.{Audience}
use Rattle.incoming.specs.Incoming as In
use Rattle.incoming.specs.Read.{read}
use Rattle.model.specs.declared.Hub.{Hub}
use Rattle.model.specs.declared.Event.{Event}
use Rattle.model.specs.declared.Event.TheVariants.{Attach, Detach, Message}
use Rattle.model.specs.declared.Outcome.TheVariants.{NoRoom}
use Rattle.model.specs.State.{format_at}
use Rattle.model.specs.Step.{Step, step, refusal}
use Rattle.model.specs.Demands.{Numbered, needed}

-- a text of 128 bytes, written: a backslash may stand before each of them
abbrev pub most_written : ℕ
most_written = 256

-- room enough for every step: a PUBLISH reaches at most 32 rows' holders, 8 slots each. An EVENT adds at most 12,606 bytes: its payload may be
-- converted, and is then at most six times as long as it came. One to the publisher, which speaks the payload's format, adds 2,371. (2,766,306 bytes
-- are needed at times, from MessagePack to JSON: `room_for_events` of proofs/PackFacts.antt. That of proofs/Facts.antt is the longest PUBLISH within
-- JSON, of 530,434)
abbrev pub most_bytes : ℕ
most_bytes = 3000000

-- room enough for every step that is no PUBLISH: one message with a payload, or a session's end. (12,133 bytes are needed at times:
-- `room_for_invocation` of proofs/PackFacts.antt)
abbrev pub most_other : ℕ
most_other = 13000

-- a message that reads as a PUBLISH in the format of its slot, whatever comes of it
abbrev pub Publishes : Hub → ℕ → Event → List ℕ → Type 0
Publishes h i (Attach f) bytes = ⊥
Publishes h i Detach bytes = ⊥
Publishes h i (Message number) bytes =
    (n : ℕ) × (acknowledge : Bool) × (audience : Audience) × (topic : List ℕ) × (payload : Payload)
    × (read (format_at h i) bytes ≡ In.Publish n acknowledge audience topic payload)

module _ (h : Hub) (x : Step) (room : ℕ) where
  abbrev pub NoPublish : Type 0
  NoPublish = ¬ (Publishes h x.slot x.event x.bytes)

  pub record Enough : Type 0 where
    -- the output needed by a step that none of the refusals before NO ROOM applies to
    pub needs : Numbered h x room → needed h x room ≤ most_bytes
    pub needs_other : NoPublish → Numbered h x room → needed h x room ≤ most_other
    -- so with that much room lent, NO ROOM never arises
    pub fits : (step h x room).outcome ≡ NoRoom → room < most_bytes
    pub fits_other : NoPublish → (step h x room).outcome ≡ NoRoom → room < most_other
    -- and no step, in any state and with any room, writes more
    pub count : (step h x room).count ≤ most_bytes
    pub count_other : NoPublish → (step h x room).count ≤ most_other
    -- what the C boundary answers is far below 2^64
    pub answer : (step h x room).count * 256 + refusal (step h x room).outcome < 2 ^ 32
