-- What is relayed.
use Rattle.std.specs.Prelude.{ℕ, suc, Bool, true, false, not, cond, ◌&&◌, ◌||◌, List, [], ◌∷◌, leb, replicate}
use Rattle.seq.specs.declared.Format.{Format}
use Rattle.seq.specs.Bytes.{Payload, Source, payload_in}
use Rattle.conversion.specs.Carried.{Carried, on_carried}
use Rattle.conversion.specs.Sources.{across}
use Rattle.uri.specs.declared.Policy.{Policy}
use Rattle.uri.specs.declared.Policy.TheVariants.{Exact, Prefix, Wildcard}
use Rattle.pattern.specs.declared.Row.{Row}
use Rattle.pattern.specs.Choice.{fits_row}
use Rattle.outgoing.specs.Layout.{Formats}
use Rattle.outgoing.specs.Outgoing as Out
use Rattle.replies.specs.declared.Naming.{Naming}
use Rattle.replies.specs.declared.Naming.TheVariants.{Plain, Names}
use Rattle.outbox.specs.declared.EventRow.{EventRow}
use Rattle.parser.specs.declared.Publish.{Publish}
use Rattle.parser.specs.declared.Call.{Call}
use Rattle.incoming.specs.Read.{audience_in}
use Rattle.model.specs.declared.Hub.{Hub}
use Rattle.model.specs.State.{session}
use Rattle.model.specs.Step.{Next, violates, publish, call, not_convertible, answer}
use Rattle.state.specs.Change.{receivers}
use Rattle.relay.specs.declared.AnswerKind.{AnswerKind}
use Rattle.relay.specs.declared.AnswerKind.TheVariants.{Result, Failure}

-- the Details of an EVENT or INVOCATION by the row's policy
abbrev pub naming : Policy → Naming
naming Exact = Plain
naming Prefix = Names
naming Wildcard = Names

abbrev pub no_event : EventRow
no_event = record { subscription = 0; details = Plain; holders = replicate 8 false }

-- a row's event under a topic, to those of its holders that are in a set of slots; none where the row does not fit
unfoldable pub event_of : List Bool → List ℕ → Row → EventRow
event_of to topic r =
    cond (fits_row topic r)
    (record { subscription = r.number; details = naming r.policy; holders = receivers to r })
    no_event

-- the event of a set of slots, from slot i on, goes to one of another format than f
unfoldable pub crosses : Formats → Format → ℕ → List Bool → Bool
crosses fs f i [] = false
crosses fs f i (b ∷ bs) = (b && not (across f (fs i) true false)) || crosses fs f (suc i) bs

-- the same of one of some rows
unfoldable pub rows_cross : Formats → Format → List EventRow → Bool
rows_cross fs f [] = false
rows_cross fs f (r ∷ rs) = crosses fs f 0 r.holders || rows_cross fs f rs

-- what a callee's message answers, under its text, with a payload
abbrev pub answer_of : List ℕ → AnswerKind → Payload → Out.Answer
answer_of text Result payload = Out.Result payload
answer_of text Failure payload = Out.Failure text payload

-- the same for a payload that may not convert
abbrev pub answer_by : List ℕ → AnswerKind → Carried → Out.Answer
answer_by text kind payload = on_carried payload (answer_of text kind) not_convertible

-- PUBLISH and CALL by slot i, as they were parsed
abbrev pub publish_of : Hub → ℕ → Publish → ℕ → Source → Next
publish_of h i p publication m =
    publish h i p.request p.acknowledge (audience_in p.format m.message p.options) m.text (payload_in m p.payload) publication

abbrev pub call_of : Hub → ℕ → Call → Source → Next
call_of h i c m = call h i c.request m.text (payload_in m c.payload)

-- an answer by slot i; an invocation number above the last one issued to its session is a violation
abbrev pub answers_of : Hub → ℕ → ℕ → Out.Answer → Next
answers_of h i invocation a = cond (leb invocation (session h i).invocation) (answer h i invocation a) (violates h i)
