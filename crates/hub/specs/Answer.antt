-- What the step in code answers and writes, over the model's step on the hub that the lent bytes stand for.
use Rattle.std.specs.Prelude.{ℕ, Bool, false, cond, not, ◌&&◌, ◌||◌, List, ◌++◌, drop}
use Rattle.seq.specs.declared.Format.{Format}
use Rattle.seq.specs.Lists.{every}
use Rattle.incoming.specs.Incoming as In
use Rattle.incoming.specs.Incoming.{Incoming}
use Rattle.incoming.specs.Read.{read}
use Rattle.outgoing.specs.Layout.{Mail, Formats, layout}
use Rattle.model.specs.declared.Event.{Event}
use Rattle.model.specs.declared.Event.TheVariants.{Attach, Detach, Message}
use Rattle.model.specs.declared.Outcome.{Outcome}
use Rattle.model.specs.declared.Outcome.TheVariants.{Done, BadState, BadSlot, WrongTime, BadNumber, NoRoom}
use Rattle.model.specs.State.{Phase, format_at}
use Rattle.model.specs.declared.Session.{Session}
use Rattle.model.specs.declared.Hub.{Hub}
use Rattle.seq.specs.Numbers.{last_id}
use Rattle.model.specs.Rules.{in_range}
use Rattle.model.specs.Step as Step
use Rattle.model.specs.Step.{accepts, is_fresh, attaches, detaches, hears}
use Rattle.image.specs.Image.{load, store}
use Rattle.hub.specs.declared.Stepped.{Stepped}
use Rattle.hub.specs.declared.Early.{Early}
use Rattle.hub.specs.declared.Early.TheVariants.{Greets, Leaves, Wrong}

-- a step's input
abbrev pub given : ℕ → Event → List ℕ → Step.Step
given slot event bytes = record { slot = slot; event = event; bytes = bytes }

-- the step on a state's bytes; bytes that are no state's are refused as BAD STATE
unfoldable pub lent : List ℕ → Step.Step → ℕ → Step.Stepped
lent s x room = cond (load s).ok (Step.step (load s).hub x room) (Step.refused (load s).hub BadState)

-- the outcome, and how many bytes of output were written
abbrev pub answer_of : Step.Stepped → Stepped
answer_of s = record { outcome = s.outcome; count = s.count }

-- in which format each slot is written to, by the state's bytes before the step
abbrev pub formats_on : List ℕ → Formats
formats_on s = format_at (load s).hub

-- the output: of a done step the layout of the messages, each in its receiver's format, and the bytes beyond the count as they were; of a
-- refused one all as they were
abbrev pub output : Formats → Outcome → ℕ → List Mail → List ℕ → List ℕ
output formats Done count ms old = layout formats ms ++ drop count old
output formats BadState count ms old = old
output formats BadSlot count ms old = old
output formats WrongTime count ms old = old
output formats BadNumber count ms old = old
output formats NoRoom count ms old = old

abbrev pub written : Formats → Step.Stepped → List ℕ → List ℕ
written formats s old = output formats s.outcome s.count s.mails old

abbrev pub if_done : Outcome → List ℕ → List ℕ → List ℕ
if_done Done new old = new
if_done BadState new old = old
if_done BadSlot new old = old
if_done WrongTime new old = old
if_done BadNumber new old = old
if_done NoRoom new old = old

-- the state's bytes after: those of the next state, or of a refused step as they were
abbrev pub kept : Step.Stepped → List ℕ → List ℕ
kept t s = if_done t.outcome (store t.hub) s

-- BAD NUMBER: a lent number outside 1 to 2^53; or a HELLO otherwise accepted while that number is an open session's
abbrev pub number_bad : List Session → Phase → ℕ → Step.Early → Bool
number_bad sessions status number e =
    not (in_range number last_id) || (accepts status e && not (every (is_fresh number) sessions))

-- the same of an event
abbrev pub event_bad : List Session → Event → Phase → Step.Early → Bool
event_bad sessions (Attach f) status e = false
event_bad sessions Detach status e = false
event_bad sessions (Message number) status e = number_bad sessions status number e

-- the message of a format that comes with an event; with another event than a message it is not looked at
abbrev pub heard : Format → Event → List ℕ → Incoming
heard f (Attach g) bytes = In.Violation
heard f Detach bytes = In.Violation
heard f (Message number) bytes = read f bytes

-- what an event leads to, its message read
abbrev pub leads_to : Hub → ℕ → Event → Incoming → Phase → Step.Next
leads_to h i (Attach f) m status = attaches h i f
leads_to h i Detach m status = detaches h i status
leads_to h i (Message number) m status = hears h i number m status

-- what a message is to a slot without a session, over its text
abbrev pub early_of : List ℕ → Early → Step.Early
early_of text Greets = Step.Greets text
early_of text Leaves = Step.Leaves
early_of text Wrong = Step.Wrong
