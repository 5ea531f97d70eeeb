-- The step (PROTOCOL, "The five refusals" and "What each message does"): a state, a slot's event and the room lent for the output go in;
-- out come the outcome, the next state and the messages to send.
use Rattle.outgoing.specs.declared.Uri.TheVariants as Uri
use Rattle.std.specs.Prelude.{◌+◌, ◌&&◌, ◌||◌, ◌∷◌, ◌++◌}
use Rattle.model.specs.Words.{last_id, uri_text, ℕ, suc, Bool, true, false, not, cond, List, [], length, eqb, leb, ltb, every, first, on_found, joined, chars, same, Payload, valid_topic, valid_procedure, valid_published, valid_called, fits_row, choice, read, layout, Format, on_carried, carried, Status, Closed, Session, Table, HeldCall, Hub, Event, Attach, Detach, Message, Outcome, Done, BadState, BadSlot, WrongTime, BadNumber, NoRoom, Policy, Exact, Prefix, Wildcard, Row, Some, None, Incoming, Outgoing, Answer, Result, Failure, Details, Mail, Audience, leaves, any_wrong, Option}
use Rattle.incoming.specs.Incoming as In
use Rattle.outgoing.specs.Outgoing as Out
use Rattle.model.specs.State.{slots, with_status, no_session, no_call, session, Phase, IsClosed, IsAttached, IsOpen, phase_at, format_at, attached_in, open_in, is_open, with_session, unused, owner, joined as joined_by, left, is_of, is_held_by, row_at, with_row, added, with_subscriptions, with_registrations, idle, serves, serves_other, call_at, with_call, ended}
use Rattle.model.specs.Rules.{in_range, rules}

-- a step: a slot, what happens to it, and a message's bytes
pub record Step : Type 0 where
  pub slot : ℕ
  pub event : Event
  pub bytes : List ℕ

-- the number of an outcome (PROTOCOL, "The five refusals")
abbrev pub refusal : Outcome → ℕ
refusal o = elim o [ Done ↦ 0 | BadState ↦ 1 | BadSlot ↦ 2 | WrongTime ↦ 3 | BadNumber ↦ 4 | NoRoom ↦ 5 ]

-- the realm
abbrev pub realm_name : List ℕ
realm_name = chars "hub.bus"

-- ---- what a step leads to, before the output's room is looked at
pub record Next : Type 0 where
  pub hub : Hub
  pub mails : List Mail

abbrev pub mail : ℕ → Outgoing → Mail
mail i m = record { to = i; message = m }

unfoldable pub silent : Hub → Next
silent h = record { hub = h; mails = [] }

unfoldable pub says : Hub → ℕ → Outgoing → Next
says h i m = record { hub = h; mails = mail i m ∷ [] }

-- ---- a session's end: its own message first, if any, then canceled for each held call it served for another session, by row
abbrev pub canceled : Answer
canceled = Failure (uri_text Uri.Canceled) []

unfoldable pub cancels : ℕ → List HeldCall → List Mail
cancels i [] = []
cancels i (c ∷ cs) =
    cond (serves_other i c) (mail c.caller (Out.Reply c.request canceled) ∷ cancels i cs) (cancels i cs)

unfoldable pub ends : Hub → ℕ → Status → List Mail → Next
ends h i status own = record { hub = ended h i status; mails = own ++ cancels i h.calls }

-- a violation is answered with ABORT; the session ends, the slot closes
unfoldable pub violates : Hub → ℕ → Next
violates h i = ends h i Closed (mail i (Out.Abort (uri_text Uri.ProtocolViolation)) ∷ [])

-- ---- request and invocation numbers
-- a request number that is the session's last plus 1, and an ID
unfoldable pub follows : ℕ → ℕ → Bool
follows last n = eqb n (suc last) && leb n last_id

unfoldable pub numbered : Hub → ℕ → ℕ → Hub
numbered h i n =
    with_session h i
    (record { status = (session h i).status; id = (session h i).id; request = n; invocation = (session h i).invocation })

unfoldable pub issued : Hub → ℕ → Hub
issued h c =
    with_session h c
    (record { status = (session h c).status; id = (session h c).id; request = (session h c).request; invocation = suc (session h c).invocation })

-- ---- SUBSCRIBE and REGISTER: a text and policy without a row gets the lowest free one
unfoldable pub has_number : Table → Bool
has_number t = ltb t.counter last_id

unfoldable pub on_place : Table → (ℕ → Next) → Next → Next
on_place t found none = cond (has_number t) (on_found (first unused t.rows) found none) none

unfoldable pub subscribe_new : Hub → ℕ → ℕ → Policy → List ℕ → Next
subscribe_new h i n policy topic =
    on_place h.subscriptions
    (λ k. says (with_subscriptions h (added h.subscriptions k policy i topic)) i (Out.Subscribed n (h.subscriptions.counter + 1)))
    (says h i (Out.Error Out.Subscribe n (uri_text Uri.NoRoom)))

-- a text and policy that have a row: the session joins it and gets its ID, also when repeated
unfoldable pub subscribe_join : Hub → ℕ → ℕ → ℕ → Next
subscribe_join h i n k =
    says (with_subscriptions h (with_row h.subscriptions k (joined_by i (row_at h.subscriptions k)))) i
    (Out.Subscribed n (row_at h.subscriptions k).number)

-- `None`: `match` names no policy, which is told before the URI is looked at
unfoldable pub subscribe : Hub → ℕ → ℕ → Option Policy → List ℕ → Next
subscribe h i n None topic = says h i (Out.Error Out.Subscribe n (uri_text Uri.InvalidArgument))
subscribe h i n (Some policy) topic =
    cond (valid_topic topic policy)
    (on_found (first (is_of policy topic) h.subscriptions.rows) (subscribe_join h i n) (subscribe_new h i n policy topic))
    (says h i (Out.Error Out.Subscribe n (uri_text Uri.InvalidUri)))

unfoldable pub register_new : Hub → ℕ → ℕ → Policy → List ℕ → Next
register_new h i n policy procedure =
    on_place h.registrations
    (λ k. says (with_registrations h (added h.registrations k policy i procedure)) i (Out.Registered n (h.registrations.counter + 1)))
    (says h i (Out.Error Out.Register n (uri_text Uri.NoRoom)))

-- `None` as in SUBSCRIBE
unfoldable pub register : Hub → ℕ → ℕ → Option Policy → List ℕ → Next
register h i n None procedure = says h i (Out.Error Out.Register n (uri_text Uri.InvalidArgument))
register h i n (Some policy) procedure =
    cond (valid_procedure procedure policy)
    (on_found (first (is_of policy procedure) h.registrations.rows)
    (λ k. says h i (Out.Error Out.Register n (uri_text Uri.ProcedureAlreadyExists)))
    (register_new h i n policy procedure))
    (says h i (Out.Error Out.Register n (uri_text Uri.InvalidUri)))

-- ---- UNSUBSCRIBE and UNREGISTER of an ID that the session holds, or not
unfoldable pub unsubscribe : Hub → ℕ → ℕ → ℕ → Next
unsubscribe h i n id =
    on_found (first (is_held_by i id) h.subscriptions.rows)
    (λ k. says (with_subscriptions h (with_row h.subscriptions k (left i (row_at h.subscriptions k)))) i (Out.Unsubscribed n))
    (says h i (Out.Error Out.Unsubscribe n (uri_text Uri.NoSuchSubscription)))

unfoldable pub unregister : Hub → ℕ → ℕ → ℕ → Next
unregister h i n id =
    on_found (first (is_held_by i id) h.registrations.rows)
    (λ k. says (with_registrations h (with_row h.registrations k (left i (row_at h.registrations k)))) i (Out.Unregistered n))
    (says h i (Out.Error Out.Unregister n (uri_text Uri.NoSuchRegistration)))

-- ---- PUBLISH: PUBLISHED first, where asked for, then events by row, then by slot
-- the Details of an EVENT or INVOCATION by the row's policy
unfoldable pub details_for : Policy → List ℕ → Details
details_for policy uri = elim policy [ Exact ↦ Out.Plain | Prefix ↦ Out.Names uri | Wildcard ↦ Out.Names uri ]

-- an event to slot j, whose payload is published by slot i; it passes over a receiver that it does not convert for
unfoldable pub event_to : Hub → ℕ → (Payload → Outgoing) → Payload → ℕ → List Mail
event_to h i event payload j = on_carried (carried (format_at h i) (format_at h j) payload) (λ p. mail j (event p) ∷ []) []

-- one row's event to its holders from slot j on, those that the options leave
unfoldable pub events_to : (ℕ → List Mail) → (ℕ → Bool) → ℕ → List Bool → List Mail
events_to event to j [] = []
events_to event to j (b ∷ bs) = cond (b && to j) (event j ++ events_to event to (suc j) bs) (events_to event to (suc j) bs)

unfoldable pub row_events : Hub → ℕ → (ℕ → Bool) → ℕ → List ℕ → Payload → Row → List Mail
row_events h i to publication topic payload r =
    cond (fits_row topic r)
    (events_to (event_to h i (Out.Event r.number publication (details_for r.policy topic)) payload) to 0 r.holders)
    []

-- the options of what slot i publishes leave slot j, by its session's ID
unfoldable pub leaves_at : Hub → ℕ → Audience → ℕ → Bool
leaves_at h i a j = ltb j slots && leaves a (eqb j i) (session h j).id

unfoldable pub acknowledged : Bool → Mail → List Mail
acknowledged true m = m ∷ []
acknowledged false m = []

unfoldable pub publishes : Hub → ℕ → ℕ → Bool → Audience → List ℕ → Payload → ℕ → Next
publishes h i n acknowledge audience topic payload publication =
    record {
      hub = h;
      mails =
          acknowledged acknowledge (mail i (Out.Published n publication))
          ++ joined (row_events h i (leaves_at h i audience) publication topic payload) h.subscriptions.rows;
    }

-- an error, told where an answer is asked for
unfoldable pub publish_error : Hub → ℕ → ℕ → Bool → List ℕ → Next
publish_error h i n acknowledge uri = record { hub = h; mails = acknowledged acknowledge (mail i (Out.Error Out.Publish n uri)) }

unfoldable pub publish : Hub → ℕ → ℕ → Bool → Audience → List ℕ → Payload → ℕ → Next
publish h i n acknowledge audience topic payload publication =
    cond (any_wrong audience) (publish_error h i n acknowledge (uri_text Uri.InvalidArgument))
    (cond (valid_published topic) (publishes h i n acknowledge audience topic payload publication)
    (publish_error h i n acknowledge (uri_text Uri.InvalidUri)))

-- ---- CALL: to the chosen registration's owner, or told why not
unfoldable pub call_error : Hub → ℕ → ℕ → List ℕ → Next
call_error h i n uri = says h i (Out.Reply n (Failure uri []))

unfoldable pub routed : Hub → ℕ → ℕ → Row → ℕ → List ℕ → Payload → Next
routed h i n r k procedure payload =
    says
    (with_call (issued h (owner r)) k
    (record { caller = i; request = n; callee = owner r; invocation = suc (session h (owner r)).invocation }))
    (owner r)
    (Out.Invocation (suc (session h (owner r)).invocation) r.number (details_for r.policy procedure) payload)

-- no room: no free row for the call, or the callee's invocation counter at its end
unfoldable pub route : Hub → ℕ → ℕ → Row → List ℕ → Payload → Next
route h i n r procedure payload =
    cond (ltb (session h (owner r)).invocation last_id)
    (on_found (first idle h.calls) (λ k. routed h i n r k procedure payload) (call_error h i n (uri_text Uri.NoRoom)))
    (call_error h i n (uri_text Uri.NoRoom))

-- the payload goes as the callee's format has it, or the caller is told that it does not convert
unfoldable pub passed : Hub → ℕ → ℕ → Row → List ℕ → Payload → Next
passed h i n r procedure payload =
    on_carried (carried (format_at h i) (format_at h (owner r)) payload)
    (λ p. route h i n r procedure p)
    (call_error h i n (uri_text Uri.NotConvertible))

unfoldable pub call : Hub → ℕ → ℕ → List ℕ → Payload → Next
call h i n procedure payload =
    cond (valid_called procedure)
    (on_found (choice h.registrations.rows procedure)
    (λ k. passed h i n (row_at h.registrations k) procedure payload)
    (call_error h i n (uri_text Uri.NoSuchProcedure)))
    (call_error h i n (uri_text Uri.InvalidUri))

-- ---- YIELD and ERROR: the held call is answered and freed; where none carries that number, the answer is dropped
-- an answer as a receiver's format has it; one that does not convert ends the call with an error of the hub's
abbrev pub not_convertible : Answer
not_convertible = Failure (uri_text Uri.NotConvertible) []

unfoldable pub conveyed : Format → Format → Answer → Answer
conveyed f g (Result payload) = on_carried (carried f g payload) Result not_convertible
conveyed f g (Failure uri payload) = on_carried (carried f g payload) (Failure uri) not_convertible

unfoldable pub answered : Hub → ℕ → ℕ → Answer → Next
answered h i k a =
    says (with_call h k no_call) (call_at h k).caller
    (Out.Reply (call_at h k).request (conveyed (format_at h i) (format_at h (call_at h k).caller) a))

unfoldable pub answer : Hub → ℕ → ℕ → Answer → Next
answer h i invocation a = on_found (first (serves i invocation) h.calls) (λ k. answered h i k a) (silent h)

-- ---- a message on an open slot; the lent number is the publication's ID
unfoldable pub request : Hub → ℕ → ℕ → (Hub → Next) → Next
request h i n serve = cond (follows (session h i).request n) (serve (numbered h i n)) (violates h i)

unfoldable pub on_open : Hub → ℕ → ℕ → Incoming → Next
on_open h i number (In.Hello realm) = violates h i
on_open h i number In.Abort = ends h i Closed []
on_open h i number In.Goodbye = ends h i (attached_in (format_at h i)) (mail i (Out.Goodbye (uri_text Uri.GoodbyeAndOut)) ∷ [])
on_open h i number (In.Error v uri payload) =
    cond (leb v (session h i).invocation) (answer h i v (Failure uri payload)) (violates h i)
on_open h i number (In.Publish n acknowledge audience topic payload) =
    request h i n λ g. publish g i n acknowledge audience topic payload number
on_open h i number (In.Subscribe n policy topic) = request h i n λ g. subscribe g i n policy topic
on_open h i number (In.Unsubscribe n id) = request h i n λ g. unsubscribe g i n id
on_open h i number (In.Call n procedure payload) = request h i n λ g. call g i n procedure payload
on_open h i number (In.Register n policy procedure) = request h i n λ g. register g i n policy procedure
on_open h i number (In.Unregister n id) = request h i n λ g. unregister g i n id
on_open h i number (In.Yield v payload) = cond (leb v (session h i).invocation) (answer h i v (Result payload)) (violates h i)
on_open h i number In.Violation = violates h i

-- ---- a message on an attached slot; the lent number is the new session's ID
unfoldable pub welcomes : Hub → ℕ → ℕ → Next
welcomes h i number =
    says (with_session h i (record { status = open_in (format_at h i); id = number; request = 0; invocation = 0 })) i (Out.Welcome number)

-- the slot closes, with an ABORT
unfoldable pub turns_away : Hub → ℕ → List ℕ → Next
turns_away h i reason = says (with_session h i no_session) i (Out.Abort reason)

-- what a message is to a slot without a session: HELLO, ABORT, or a violation
pub data Early : Type 0 where
  Greets : (realm : List ℕ) → Early
  Leaves Wrong : Early

unfoldable pub early : Incoming → Early
early (In.Hello realm) = Greets realm
early In.Abort = Leaves
early In.Goodbye = Wrong
early (In.Error v uri payload) = Wrong
early (In.Publish n acknowledge audience topic payload) = Wrong
early (In.Subscribe n policy topic) = Wrong
early (In.Unsubscribe n id) = Wrong
early (In.Call n procedure payload) = Wrong
early (In.Register n policy procedure) = Wrong
early (In.Unregister n id) = Wrong
early (In.Yield v payload) = Wrong
early In.Violation = Wrong

unfoldable pub on_attached : Hub → ℕ → ℕ → Early → Next
on_attached h i number (Greets realm) = cond (same realm realm_name) (welcomes h i number) (turns_away h i (uri_text Uri.NoSuchRealm))
on_attached h i number Leaves = silent (with_session h i no_session)
on_attached h i number Wrong = turns_away h i (uri_text Uri.ProtocolViolation)

-- ---- what an event leads to, by what the slot's status is; the last line of each is refused as WRONG TIME
unfoldable pub attaches : Hub → ℕ → Format → Next
attaches h i f = silent (with_session h i (with_status (attached_in f)))

unfoldable pub detaches : Hub → ℕ → Phase → Next
detaches h i IsOpen = ends h i Closed []
detaches h i IsAttached = silent (with_session h i no_session)
detaches h i IsClosed = silent h

unfoldable pub hears : Hub → ℕ → ℕ → Incoming → Phase → Next
hears h i number m IsOpen = on_open h i number m
hears h i number m IsAttached = on_attached h i number (early m)
hears h i number m IsClosed = silent h

unfoldable pub next : Hub → ℕ → Event → List ℕ → Next
next h i (Attach f) bytes = attaches h i f
next h i Detach bytes = detaches h i (phase_at h i)
next h i (Message number) bytes = hears h i number (read (format_at h i) bytes) (phase_at h i)

-- ---- the refusals after the first
-- attaching a slot that isn't closed; detaching or a message on a closed one
unfoldable pub wrong_time : Event → Phase → Bool
wrong_time (Attach f) p = elim p [ IsClosed ↦ false | IsAttached ↦ true | IsOpen ↦ true ]
wrong_time Detach p = elim p [ IsClosed ↦ true | IsAttached ↦ false | IsOpen ↦ false ]
wrong_time (Message number) p = elim p [ IsClosed ↦ true | IsAttached ↦ false | IsOpen ↦ false ]

-- the number is not an open session's
unfoldable pub is_fresh : ℕ → Session → Bool
is_fresh number s = not (is_open s && eqb s.id number)

-- a HELLO otherwise accepted
unfoldable pub accepts : Phase → Early → Bool
accepts IsAttached m = elim m [ Greets realm ↦ same realm realm_name | Leaves ↦ false | Wrong ↦ false ]
accepts IsClosed m = false
accepts IsOpen m = false

-- a lent number outside 1 to 2^53; or a HELLO otherwise accepted while that number is an open session's
unfoldable pub bad_number : Hub → ℕ → Event → List ℕ → Bool
bad_number h i (Attach f) bytes = false
bad_number h i Detach bytes = false
bad_number h i (Message number) bytes =
    not (in_range number last_id)
    || (accepts (phase_at h i) (early (read (format_at h i) bytes)) && not (every (is_fresh number) h.sessions))

-- ---- the step
-- the outcome, the state after, the messages sent, and how many bytes of output were written
pub record Stepped : Type 0 where
  pub outcome : Outcome
  pub hub : Hub
  pub mails : List Mail
  pub count : ℕ

-- a refused step changes nothing, sends nothing and reports 0 bytes
unfoldable pub refused : Hub → Outcome → Stepped
refused h outcome = record { outcome = outcome; hub = h; mails = []; count = 0 }

-- the output of a hub's step: each message in its receiver's format as it was before the step
abbrev pub output_of : Hub → List Mail → List ℕ
output_of h ms = layout (format_at h) ms

unfoldable pub done : Hub → Next → Stepped
done h x = record { outcome = Done; hub = x.hub; mails = x.mails; count = length (output_of h x.mails) }

-- NO ROOM: the output needed is longer than the output lent
unfoldable pub fitted : Hub → ℕ → Next → Stepped
fitted h room x = cond (leb (length (output_of h x.mails)) room) (done h x) (refused h NoRoom)

-- checks run in the order 1 to 5
unfoldable pub step : Hub → Step → ℕ → Stepped
step h x room =
    cond (not (rules h)) (refused h BadState)
    (cond (leb slots x.slot) (refused h BadSlot)
    (cond (wrong_time x.event (phase_at h x.slot)) (refused h WrongTime)
    (cond (bad_number h x.slot x.event x.bytes) (refused h BadNumber)
    (fitted h room (next h x.slot x.event x.bytes)))))
