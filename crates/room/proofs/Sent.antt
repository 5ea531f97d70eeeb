-- What each step sends: to whom, how many messages, how long each is, and how long its output is, whatever formats the slots have. Assumes nothing.
use Prim.Native.Nat.{ℕ, suc, ◌+◌, ◌*◌, ◌≤◌, ◌<◌}
use mathlib.Core.Path.{◌≡◌, sym, subst}
use mathlib.Core.Bool.{Bool, true, false, not, ◌&&◌}
use mathlib.Core.List.{List, [], ◌∷◌, ◌++◌}
use native.Mathlib.Omega.{arith}
use lib.ListN.{length, length-append}
use lib.Dec.{eqb, leb, ltb}
use native.Mathlib.Decide.{dec_le}
use borrow.Author.Tests.{eqb-true, eqb-false}
use Rattle.seq.specs.declared.Format.{Format}
use Rattle.seq.specs.Lists.{All, first, joined}
use Rattle.seq.specs.Bytes.{same, Payload}
use Rattle.seq.specs.Numbers.{last_id}
use Rattle.seq.proofs.Logic.{clash, and_left, not_is, cond-case, split}
use Rattle.seq.proofs.Rules.{all_append, all-at, all_map}
use Rattle.seq.proofs.Search.{found-case, found-passes}
use Rattle.uri.specs.Uri.{longest, valid_topic, valid_procedure, valid_published, valid_called}
use Rattle.uri.proofs.Uses.{short-published, short-called}
use Rattle.pattern.specs.Choice.{fits_row, choice}
use Rattle.conversion.specs.Carried.{carried}
use Rattle.conversion.proofs.Carried.{carried-case, carried_same}
use Rattle.options.specs.Audience.{Audience, any_wrong}
use Rattle.incoming.specs.Incoming as In
use Rattle.incoming.specs.Read.{read}
use Rattle.outgoing.specs.Outgoing as Out
use Rattle.outgoing.specs.Outgoing.{uri_text, render}
use Rattle.outgoing.specs.declared.Uri.TheVariants as Uri
use Rattle.outgoing.specs.Layout.{Formats, layout}
use Rattle.outgoing.proofs.Lengths.{layout-cons, layout-none}
use Rattle.model.specs.declared.Status.{Status}
use Rattle.model.specs.declared.Status.TheVariants.{Closed}
use Rattle.model.specs.declared.Table.{Table}
use Rattle.model.specs.declared.HeldCall.{HeldCall}
use Rattle.model.specs.declared.Hub.{Hub}
use Rattle.model.specs.declared.Event.{Event}
use Rattle.model.specs.declared.Event.TheVariants.{Attach, Detach, Message}
use Rattle.model.specs.Words.{Policy, Exact, Prefix, Wildcard, Row, Some, None, Incoming, Outgoing, Answer, Result, Failure, Request, Mail, Option}
use Rattle.model.specs.State.{slots, no_call, session, Phase, IsClosed, IsAttached, IsOpen, phase_at, format_at, attached_in, with_session, unused, owner, row_at, is_of, is_held_by, idle, serves, serves_other, call_at}
use Rattle.model.specs.Rules.{Sized, SizedRow, Lawful, JoinedCall}
use Rattle.model.specs.Step.{Next, next, mail, silent, says, cancels, ends, violates, follows, numbered, has_number, on_place, subscribe_new, subscribe_join, subscribe, register_new, register, unsubscribe, unregister, details_for, event_to, events_to, row_events, leaves_at, acknowledged, publishes, publish_error, publish, call_error, routed, route, passed, call, conveyed, answered, answer, request, on_open, welcomes, turns_away, Early, Greets, Leaves, Wrong, early, on_attached, attaches, detaches, hears, realm_name, canceled, not_convertible}
use Rattle.model.proofs.Formats.{numbered-format}
use Rattle.model.proofs.CallSearch.{idle-none}
use Rattle.model.proofs.Chosen.{choice-used}
use Rattle.model.proofs.Owner.{registered-open}
use Rattle.model.proofs.Parts.{sound-of, open-inside}
use Rattle.room.specs.Enough.{most_bytes, most_other}
use Rattle.room.proofs.Payloads.{Short, most_payload, Came, Fits, read_fits, carried-short}
use Rattle.room.proofs.Messages.{ShortAnswer, ShortDetails, ShortParts, most_message, around_event, event-short, message-short, canceled-short, farewell-short}

-- ---- mails that can be told
abbrev pub Told : Mail → Type 0
Told m = (m.to < slots) × ShortParts m.message

-- a step's mails, whose output has so many bytes at most
pub record Sends (most : ℕ) (x : Next) : Type 0 where
  pub told : All Told x.mails
  pub count : length x.mails ≤ 257
  pub output : (formats : Formats) → length (layout formats x.mails) ≤ most

abbrev Small : Next → Type 0
Small x = Sends most_other x

-- what one list of messages and another take together
layout-append : (formats : Formats) (xs ys : List Mail) → length (layout formats (xs ++ ys)) + 2 ≡ length (layout formats xs) + length (layout formats ys)
layout-append formats [] ys = omega (arith, layout-none formats)
layout-append formats (x ∷ xs) ys = omega (arith, layout-cons formats x (xs ++ ys), layout-cons formats x xs, layout-append formats xs ys)

-- an entry of 3 bytes for each
told-output : (formats : Formats) (ms : List Mail) → All Told ms → length (layout formats ms) ≤ 2 + (most_message + 3) * length ms
told-output formats [] a = omega (arith, layout-none formats)
told-output formats (m ∷ ms) a =
    let e = layout-cons formats m ms in
    let r = told-output formats ms a.1 in
    omega (arith, message-short (formats m.to) m.message a.0.1)

silent-small : (h : Hub) → Small (silent h)
unfolding silent
silent-small h = record { told = tt; count = omega arith; output = λ formats. omega (arith, layout-none formats) }

says-small : (h : Hub) (i : ℕ) (m : Outgoing) → i < slots → ShortParts m → Small (says h i m)
unfolding says
says-small h i m b s =
    record { told = ((b, s), tt); count = omega arith; output = λ formats. omega (arith, told-output formats (mail i m ∷ []) ((b, s), tt)) }

-- ---- the receivers: the sender itself, or an open session's slot
module _ (h : Hub) (sized : Sized h) (lawful : Lawful h) where
  -- the caller of a held call
  caller-in : (c : HeldCall) → (idle c ≡ false → JoinedCall h c) → idle c ≡ false → c.caller < slots
  caller-in c j u = open-inside h (sound-of h lawful sized) c.caller (j u).calling

  calls-in : All (λ c. idle c ≡ false → c.caller < slots) h.calls
  calls-in = all_map (λ c. idle c ≡ false → JoinedCall h c) (λ c. idle c ≡ false → c.caller < slots) caller-in h.calls lawful.joined

  -- the owner of a registration
  owner-in : (k : ℕ) → unused (row_at h.registrations k) ≡ false → owner (row_at h.registrations k) < slots
  owner-in k u = open-inside h (sound-of h lawful sized) (owner (row_at h.registrations k)) (registered-open h k lawful u)

-- ---- a session's end: its own message, and canceled for each of 32 held calls at most that it serves for another
hub-error : (uri : List ℕ) → length uri ≤ longest → ShortAnswer (Failure uri [])
hub-error uri l = (l, (omega arith, omega arith))

abbrev cancel_mail : HeldCall → Mail
cancel_mail c = mail c.caller (Out.Reply c.request canceled)

cancels-told : (i : ℕ) (cs : List HeldCall) → All (λ c. idle c ≡ false → c.caller < slots) cs → All Told (cancels i cs)
unfolding cancels serves_other
cancels-told i [] a = tt
cancels-told i (c ∷ cs) a =
    let r = cancels-told i cs a.1 in
    cond-case (All Told) (serves_other i c) (cancel_mail c ∷ cancels i cs) (cancels i cs)
    (λ t. ((a.0 (not_is (idle c) (and_left (not (idle c)) _ t)), hub-error (uri_text Uri.Canceled) (omega arith)), r))
    (λ t. r)

cancels-few : (i : ℕ) (cs : List HeldCall) → length (cancels i cs) ≤ length cs
unfolding cancels
cancels-few i [] = omega arith
cancels-few i (c ∷ cs) =
    let r = cancels-few i cs in
    cond-case (λ ms. length ms ≤ suc (length cs)) (serves_other i c) (cancel_mail c ∷ cancels i cs) (cancels i cs)
    (λ t. omega arith)
    (λ t. omega arith)

cancels-output : (formats : Formats) (i : ℕ) (cs : List HeldCall) → length (layout formats (cancels i cs)) ≤ 2 + 55 * length cs
unfolding cancels
cancels-output formats i [] = omega (arith, layout-none formats)
cancels-output formats i (c ∷ cs) =
    let r = cancels-output formats i cs in
    cond-case (λ ms. length (layout formats ms) ≤ 2 + 55 * length (c ∷ cs)) (serves_other i c) (cancel_mail c ∷ cancels i cs) (cancels i cs)
    (λ t. omega (arith, layout-cons formats (cancel_mail c) (cancels i cs), canceled-short (formats c.caller) c.request))
    (λ t. omega arith)

module _ (h : Hub) (sized : Sized h) (lawful : Lawful h) (i : ℕ) (inside : i < slots) where
  ends-quiet : (status : Status) → Small (ends h i status [])
  unfolding ends
  ends-quiet status =
      let n = sized.calls in
      record {
        told = cancels-told i h.calls (calls-in h sized lawful);
        count = omega (arith, cancels-few i h.calls);
        output = λ formats. omega (arith, cancels-output formats i h.calls);
      }

  ends-saying : (status : Status) (m : Outgoing) → ShortParts m → ((f : Format) → length (render f m) ≤ 57) → Small (ends h i status (mail i m ∷ []))
  unfolding ends
  ends-saying status m s l =
      let n = sized.calls in
      record {
        told = ((inside, s), cancels-told i h.calls (calls-in h sized lawful));
        count = omega (arith, cancels-few i h.calls);
        output = λ formats. omega (arith, cancels-output formats i h.calls, layout-cons formats (mail i m) (cancels i h.calls), l (formats i));
      }

  violates-small : Small (violates h i)
  unfolding violates
  violates-small = ends-saying Closed (Out.Abort (uri_text Uri.ProtocolViolation)) (omega arith) (λ f. (farewell-short f).1)

  goodbye-small : (status : Status) → Small (ends h i status (mail i (Out.Goodbye (uri_text Uri.GoodbyeAndOut)) ∷ []))
  goodbye-small status = ends-saying status (Out.Goodbye (uri_text Uri.GoodbyeAndOut)) (omega arith) (λ f. (farewell-short f).0)

  -- a request is served, or a violation
  request-case : (P : Next → Type 0) → ((x : Next) → Small x → P x) → (n : ℕ) (serve : Hub → Next) → P (serve (numbered h i n)) → P (request h i n serve)
  unfolding request
  request-case P weaken n serve p =
      cond-case P (follows (session h i).request n) (serve (numbered h i n)) (violates h i) (λ e. p) (λ e. weaken _ violates-small)

  request-small : (n : ℕ) (serve : Hub → Next) → Small (serve (numbered h i n)) → Small (request h i n serve)
  request-small n serve p = request-case Small (λ x s. s) n serve p

-- ---- requests; g is the hub with the request's number
module _ (g : Hub) (i n : ℕ) (inside : i < slots) where
  error-small : (r : Request) (uri : List ℕ) → length uri ≤ longest → Small (says g i (Out.Error r n uri))
  error-small r uri l = says-small g i _ inside l

  place-small : (t : Table) (found : ℕ → Next) (none : Next) → ((k : ℕ) → Small (found k)) → Small none → Small (on_place t found none)
  unfolding on_place
  place-small t found none p q =
      cond-case Small (has_number t) _ none (λ e. found-case Small (first unused t.rows) found none (λ k f. p k) (λ f. q)) (λ e. q)

  subscribe-small : (policy : Option Policy) (topic : List ℕ) → Small (subscribe g i n policy topic)
  unfolding subscribe subscribe_join subscribe_new
  subscribe-small None topic = error-small _ _ (omega arith)
  subscribe-small (Some policy) topic =
      cond-case Small (valid_topic topic policy) _ _
      (λ e. found-case Small (first (is_of policy topic) g.subscriptions.rows) _ _
      (λ k f. says-small _ i _ inside tt)
      (λ f. place-small _ _ _
      (λ k. says-small _ i _ inside tt)
      (error-small _ _ (omega arith))))
      (λ e. error-small _ _ (omega arith))

  register-small : (policy : Option Policy) (procedure : List ℕ) → Small (register g i n policy procedure)
  unfolding register register_new
  register-small None procedure = error-small _ _ (omega arith)
  register-small (Some policy) procedure =
      cond-case Small (valid_procedure procedure policy) _ _
      (λ e. found-case Small (first (is_of policy procedure) g.registrations.rows) _ _
      (λ k f. error-small _ _ (omega arith))
      (λ f. place-small _ _ _
      (λ k. says-small _ i _ inside tt)
      (error-small _ _ (omega arith))))
      (λ e. error-small _ _ (omega arith))

  unsubscribe-small : (id : ℕ) → Small (unsubscribe g i n id)
  unfolding unsubscribe
  unsubscribe-small id =
      found-case Small (first (is_held_by i id) g.subscriptions.rows) _ _ (λ k f. says-small _ i _ inside tt) (λ f. error-small _ _ (omega arith))

  unregister-small : (id : ℕ) → Small (unregister g i n id)
  unfolding unregister
  unregister-small id =
      found-case Small (first (is_held_by i id) g.registrations.rows) _ _ (λ k f. says-small _ i _ inside tt) (λ f. error-small _ _ (omega arith))

-- ---- the Details of an EVENT or INVOCATION
details-short : (policy : Policy) (uri : List ℕ) → length uri ≤ longest → ShortDetails (details_for policy uri)
unfolding details_for
details-short Exact uri l = tt
details-short Prefix uri l = l
details-short Wildcard uri l = l

-- ---- CALL
module _ (g : Hub) (i n : ℕ) (inside : i < slots) where
  call-error-small : (uri : List ℕ) → length uri ≤ longest → Small (call_error g i n uri)
  unfolding call_error
  call-error-small uri l = says-small g i _ inside (hub-error uri l)

  route-small : (r : Row) (procedure : List ℕ) (p : Payload) → owner r < slots → length procedure ≤ longest → Short most_payload p
      → Small (route g i n r procedure p)
  unfolding route routed
  route-small r procedure p o l s =
      cond-case Small (ltb (session g (owner r)).invocation last_id) _ _
      (λ e. found-case Small (first idle g.calls) _ _
      (λ k f. says-small _ _ _ o (details-short r.policy procedure l, s))
      (λ f. call-error-small _ (omega arith)))
      (λ e. call-error-small _ (omega arith))

  passed-small : (r : Row) (procedure : List ℕ) (p : Payload) → owner r < slots → length procedure ≤ longest → Came (format_at g i) p
      → Small (passed g i n r procedure p)
  unfolding passed
  passed-small r procedure p o l c =
      carried-case Small (carried (format_at g i) (format_at g (owner r)) p) _ _
      (λ q e. route-small r procedure q o l (carried-short (format_at g i) (format_at g (owner r)) p q c e))
      (λ e. call-error-small _ (omega arith))

  call-small : (procedure : List ℕ) (p : Payload) → Came (format_at g i) p
      → ((k : ℕ) → unused (row_at g.registrations k) ≡ false → owner (row_at g.registrations k) < slots) → Small (call g i n procedure p)
  unfolding call
  call-small procedure p c owners =
      cond-case Small (valid_called procedure) _ _
      (λ e. found-case Small (choice g.registrations.rows procedure) _ _
      (λ k f. passed-small (row_at g.registrations k) procedure p (owners k (choice-used g.registrations.rows procedure k f).1) (short-called procedure e) c)
      (λ f. call-error-small _ (omega arith)))
      (λ e. call-error-small _ (omega arith))

-- ---- YIELD and ERROR
-- an answer that came in a format
abbrev CameAnswer : Format → Answer → Type 0
CameAnswer f (Result p) = Came f p
CameAnswer f (Failure uri p) = (length uri ≤ longest) × Came f p

conveyed-short : (f g : Format) (a : Answer) → CameAnswer f a → ShortAnswer (conveyed f g a)
unfolding conveyed
conveyed-short f g (Result p) c =
    carried-case ShortAnswer (carried f g p) Result not_convertible (λ q e. carried-short f g p q c e) (λ e. hub-error (uri_text Uri.NotConvertible) (omega arith))
conveyed-short f g (Failure uri p) (l, c) =
    carried-case ShortAnswer (carried f g p) (Failure uri) not_convertible (λ q e. (l, carried-short f g p q c e)) (λ e. hub-error (uri_text Uri.NotConvertible) (omega arith))

answer-small : (h : Hub) → Sized h → Lawful h → (i v : ℕ) (a : Answer) → CameAnswer (format_at h i) a → Small (answer h i v a)
unfolding answer answered serves
answer-small h sized lawful i v a c =
    found-case Small (first (serves i v) h.calls) _ _
    (λ k f.
    let p = found-passes (serves i v) no_call h.calls k f in
    let u = not_is (idle (call_at h k)) (and_left (not (idle (call_at h k))) _ p) in
    let b = all-at (λ c. idle c ≡ false → c.caller < slots) no_call h.calls k (λ z. clash idle-none z) (calls-in h sized lawful) u in
    says-small _ _ _ b (conveyed-short (format_at h i) (format_at h (call_at h k).caller) a c))
    (λ f. silent-small h)

-- ---- a slot without a session; attach and detach
early-small : (h : Hub) (i number : ℕ) (m : Early) → i < slots → Small (on_attached h i number m)
unfolding on_attached welcomes turns_away
early-small h i number (Greets realm) b = cond-case Small (same realm realm_name) _ _ (λ e. says-small _ i _ b tt) (λ e. says-small _ i _ b (omega arith))
early-small h i number Leaves b = silent-small _
early-small h i number Wrong b = says-small _ i _ b (omega arith)

-- ---- PUBLISH
-- the most bytes that an event adds, with its entry; and one to the publisher, which speaks the payload's format: it is not converted
abbrev most_event : ℕ
most_event = most_message + 3

abbrev most_own : ℕ
most_own = 2047 + around_event + 3

-- how many events a row gives, one to each of its holders at most, and how many bytes they add: at most one is the publisher's
module _ (event : ℕ → List Mail) (one : (j : ℕ) → length (event j) ≤ 1) (to : ℕ → Bool) where
  events-most : (j : ℕ) (bs : List Bool) → length (events_to event to j bs) ≤ length bs
  unfolding events_to
  events-most j [] = omega arith
  events-most j (b ∷ bs) =
      let r = events-most (suc j) bs in
      let e = length-append (event j) (events_to event to (suc j) bs) in
      cond-case (λ ms. length ms ≤ suc (length bs)) (b && to j) (event j ++ events_to event to (suc j) bs) (events_to event to (suc j) bs)
      (λ t. omega (arith, one j))
      (λ t. omega arith)

  module _ (formats : Formats) (far : (j : ℕ) → j < slots → length (layout formats (event j)) ≤ 2 + most_event) where
    events-far : (j : ℕ) (bs : List Bool) → j + length bs ≤ slots → length (layout formats (events_to event to j bs)) ≤ 2 + most_event * length bs
    unfolding events_to
    events-far j [] l = omega (arith, layout-none formats)
    events-far j (b ∷ bs) l =
        let there = events_to event to (suc j) bs in
        let r = events-far (suc j) bs (omega arith) in
        let e = layout-append formats (event j) there in
        cond-case (λ ms. length (layout formats ms) ≤ 2 + most_event * suc (length bs)) (b && to j) (event j ++ there) there
        (λ t. omega (arith, far j (omega arith)))
        (λ t. omega arith)

    module _ (i : ℕ) (own : length (layout formats (event i)) ≤ 2 + most_own) where
      events-near : (j : ℕ) (bs : List Bool) → j + length bs ≤ slots → j ≤ i → i < j + length bs
          → length (layout formats (events_to event to j bs)) + most_event ≤ 2 + (most_event * length bs + most_own)
      unfolding events_to
      events-near j [] l m u = absurd (omega arith)
      events-near j (b ∷ bs) l m u =
          let there = events_to event to (suc j) bs in
          let e = layout-append formats (event j) there in
          split (eqb j i)
          (λ t.
          let q = eqb-true j i t in
          let o : length (layout formats (event j)) ≤ 2 + most_own = rw q own in
          let r = events-far (suc j) bs (omega arith) in
          cond-case (λ ms. length (layout formats ms) + most_event ≤ 2 + (most_event * suc (length bs) + most_own)) (b && to j) (event j ++ there) there
          (λ _. omega arith)
          (λ _. omega arith))
          (λ t.
          let ne = eqb-false j i t in
          let r = events-near (suc j) bs (omega arith) (elim (dec_le (suc j) i) [ yes q ↦ q | no q ↦ absurd (ne (omega arith)) ]) (omega arith) in
          cond-case (λ ms. length (layout formats ms) + most_event ≤ 2 + (most_event * suc (length bs) + most_own)) (b && to j) (event j ++ there) there
          (λ _. omega (arith, far j (omega arith)))
          (λ _. omega arith))

-- the holders' places are slots
events-told : (event : ℕ → List Mail) → ((j : ℕ) → j < slots → All Told (event j)) → (to : ℕ → Bool) (j : ℕ) (bs : List Bool) → j + length bs ≤ slots
    → All Told (events_to event to j bs)
unfolding events_to
events-told event each to j [] b = tt
events-told event each to j (x ∷ bs) b =
    let r = events-told event each to (suc j) bs (omega arith) in
    cond-case (All Told) (x && to j) (event j ++ events_to event to (suc j) bs) (events_to event to (suc j) bs)
    (λ t. all_append Told (event j) (events_to event to (suc j) bs) (each j (omega arith)) r)
    (λ t. r)

module _ (h : Hub) (i : ℕ) (to : ℕ → Bool) (publication : ℕ) (topic : List ℕ) (p : Payload) (valid : length topic ≤ longest)
    (came : Came (format_at h i) p) where
  abbrev event_of : Row → Payload → Outgoing
  event_of r q = Out.Event r.number publication (details_for r.policy topic) q

  abbrev events_of : Row → List Mail
  events_of r = row_events h i to publication topic p r

  event-one : (r : Row) (j : ℕ) → length (event_to h i (event_of r) p j) ≤ 1
  unfolding event_to
  event-one r j =
      carried-case (λ ms. length ms ≤ 1) (carried (format_at h i) (format_at h j) p) (λ q. mail j (event_of r q) ∷ []) [] (λ q e. omega arith) (λ e. omega arith)

  event-told : (r : Row) (j : ℕ) → j < slots → All Told (event_to h i (event_of r) p j)
  unfolding event_to
  event-told r j b =
      carried-case (All Told) (carried (format_at h i) (format_at h j) p) _ _
      (λ q e. ((b, (details-short r.policy topic valid, carried-short (format_at h i) (format_at h j) p q came e)), tt))
      (λ e. tt)

  -- what it adds to an output, to any slot and to the publisher's
  event-far : (formats : Formats) (r : Row) (j : ℕ) → j < slots → length (layout formats (event_to h i (event_of r) p j)) ≤ 2 + most_event
  event-far formats r j b = omega (arith, told-output formats (event_to h i (event_of r) p j) (event-told r j b), event-one r j)

  event-own : (formats : Formats) (r : Row) → length (layout formats (event_to h i (event_of r) p i)) ≤ 2 + most_own
  unfolding event_to
  event-own formats r =
      let m = mail i (event_of r p) in
      let (w, (n, l)) = came in
      rw (carried_same (format_at h i) p)
      (omega (
        arith,
        layout-cons formats m [],
        layout-none formats,
        event-short (formats i) r.number publication (details_for r.policy topic) p (details-short r.policy topic valid) n,
      ))

  row-most : (r : Row) → SizedRow r → length (events_of r) ≤ 8
  unfolding row_events
  row-most r s =
      let n = s.holders in
      cond-case (λ ms. length ms ≤ 8) (fits_row topic r) _ []
      (λ t. omega (arith, events-most (event_to h i (event_of r) p) (event-one r) to 0 r.holders))
      (λ t. omega arith)

  row_told : (r : Row) → SizedRow r → All Told (events_of r)
  unfolding row_events
  row_told r s =
      let n = s.holders in
      cond-case (All Told) (fits_row topic r) _ [] (λ t. events-told (event_to h i (event_of r) p) (event-told r) to 0 r.holders (omega arith)) (λ t. tt)

  -- seven other slots and the publisher's
  row_output : (formats : Formats) → i < slots → (r : Row) → SizedRow r → length (layout formats (events_of r)) ≤ 2 + (7 * most_event + most_own)
  unfolding row_events
  row_output formats inside r s =
      let n = s.holders in
      cond-case (λ ms. length (layout formats ms) ≤ 2 + (7 * most_event + most_own)) (fits_row topic r) _ []
      (λ t.
      omega (
        arith,
        events-near (event_to h i (event_of r) p) (event-one r) to formats (event-far formats r) i (event-own formats r) 0 r.holders (omega arith)
            (omega arith) (omega arith),
      ))
      (λ t. omega (arith, layout-none formats))

  rows-output : (formats : Formats) → i < slots → (rs : List Row) → All SizedRow rs
      → length (layout formats (joined events_of rs)) ≤ 2 + (7 * most_event + most_own) * length rs
  rows-output formats inside [] a = omega (arith, layout-none formats)
  rows-output formats inside (r ∷ rs) a =
      omega (arith, layout-append formats (events_of r) (joined events_of rs), row_output formats inside r a.0, rows-output formats inside rs a.1)

  rows-most : (rs : List Row) → All SizedRow rs → length (joined events_of rs) ≤ 8 * length rs
  rows-most [] a = omega arith
  rows-most (r ∷ rs) a =
      let e = length-append (events_of r) (joined events_of rs) in
      let f = row-most r a.0 in let g = rows-most rs a.1 in omega arith

  rows_told : (rs : List Row) → All SizedRow rs → All Told (joined events_of rs)
  rows_told [] a = tt
  rows_told (r ∷ rs) a = all_append Told (events_of r) (joined events_of rs) (row_told r a.0) (rows_told rs a.1)

-- PUBLISHED, or the ERROR in its place
acknowledged-told : (t : Bool) (m : Mail) → Told m → All Told (acknowledged t m) × (length (acknowledged t m) ≤ 1)
unfolding acknowledged
acknowledged-told true m a = ((a, tt), omega arith)
acknowledged-told false m a = (tt, omega arith)

failed-sends : (g : Hub) (i n : ℕ) (acknowledge : Bool) (uri : List ℕ) → i < slots → length uri ≤ longest → Sends most_bytes (publish_error g i n acknowledge uri)
unfolding publish_error
failed-sends g i n acknowledge uri inside l =
    let m = mail i (Out.Error Out.Publish n uri) in
    let (a, few) = acknowledged-told acknowledge m (inside, l) in
    record { told = a; count = omega arith; output = λ formats. omega (arith, told-output formats (acknowledged acknowledge m) a) }

-- PUBLISHED, and 256 events at most
publishes-sends : (g : Hub) (i n : ℕ) (acknowledge : Bool) (audience : Audience) (topic : List ℕ) (p : Payload) (publication : ℕ) → i < slots
    → Came (format_at g i) p → length g.subscriptions.rows ≡ 32 → All SizedRow g.subscriptions.rows → length topic ≤ longest
    → Sends most_bytes (publishes g i n acknowledge audience topic p publication)
unfolding publishes
publishes-sends g i n acknowledge audience topic p publication inside came size rows short =
    let rs = g.subscriptions.rows in
    let to = leaves_at g i audience in
    let ms = joined (row_events g i to publication topic p) rs in
    let own = acknowledged acknowledge (mail i (Out.Published n publication)) in
    let (a, few) = acknowledged-told acknowledge (mail i (Out.Published n publication)) (inside, tt) in
    record {
      told = all_append Told own ms a (rows_told g i to publication topic p short came rs rows);
      count = omega (arith, length-append own ms, rows-most g i to publication topic p short came rs rows);
      output =
          λ formats.
          omega (
            arith,
            layout-append formats own ms,
            told-output formats own a,
            rows-output g i to publication topic p short came formats inside rs rows,
          );
    }

publish-sends : (g : Hub) (i n : ℕ) (acknowledge : Bool) (audience : Audience) (topic : List ℕ) (p : Payload) (publication : ℕ) → i < slots
    → Came (format_at g i) p → length g.subscriptions.rows ≡ 32 → All SizedRow g.subscriptions.rows
    → Sends most_bytes (publish g i n acknowledge audience topic p publication)
unfolding publish
publish-sends g i n acknowledge audience topic p publication inside came size rows =
    cond-case (Sends most_bytes) (any_wrong audience) _ _
    (λ e. failed-sends g i n acknowledge (uri_text Uri.InvalidArgument) inside (omega arith))
    (λ e.
    cond-case (Sends most_bytes) (valid_published topic) _ _
    (λ e. publishes-sends g i n acknowledge audience topic p publication inside came size rows (short-published topic e))
    (λ e. failed-sends g i n acknowledge (uri_text Uri.InvalidUri) inside (omega arith)))

-- ---- every step
-- the bound by the message
abbrev pub bound : Incoming → ℕ
bound (In.Hello realm) = most_other
bound In.Abort = most_other
bound In.Goodbye = most_other
bound (In.Error v uri p) = most_other
bound (In.Publish n acknowledge audience topic p) = most_bytes
bound (In.Subscribe n policy topic) = most_other
bound (In.Unsubscribe n id) = most_other
bound (In.Call n procedure p) = most_other
bound (In.Register n policy procedure) = most_other
bound (In.Unregister n id) = most_other
bound (In.Yield v p) = most_other
bound In.Violation = most_other

pub bound-low : (m : Incoming) → (most_other ≤ bound m) × (bound m ≤ most_bytes)
bound-low (In.Hello realm) = (omega arith, omega arith)
bound-low In.Abort = (omega arith, omega arith)
bound-low In.Goodbye = (omega arith, omega arith)
bound-low (In.Error v uri p) = (omega arith, omega arith)
bound-low (In.Publish n acknowledge audience topic p) = (omega arith, omega arith)
bound-low (In.Subscribe n policy topic) = (omega arith, omega arith)
bound-low (In.Unsubscribe n id) = (omega arith, omega arith)
bound-low (In.Call n procedure p) = (omega arith, omega arith)
bound-low (In.Register n policy procedure) = (omega arith, omega arith)
bound-low (In.Unregister n id) = (omega arith, omega arith)
bound-low (In.Yield v p) = (omega arith, omega arith)
bound-low In.Violation = (omega arith, omega arith)

more : (m n : ℕ) → m ≤ n → (x : Next) → Sends m x → Sends n x
more m n l x s = record { told = s.told; count = s.count; output = λ formats. omega (arith, s.output formats) }

-- the bound by the step
abbrev pub limit : Hub → ℕ → Event → List ℕ → ℕ
limit h i (Attach f) bytes = most_other
limit h i Detach bytes = most_other
limit h i (Message number) bytes = bound (read (format_at h i) bytes)

module _ (h : Hub) (sized : Sized h) (lawful : Lawful h) (i : ℕ) (inside : i < slots) where
  -- a request's number leaves the format
  came-numbered : (n : ℕ) (p : Payload) → Came (format_at h i) p → Came (format_at (numbered h i n) i) p
  came-numbered n p c = subst (λ (f : Format). Came f p) (sym (numbered-format h i n i)) c

  open-sends : (number : ℕ) (m : Incoming) → Fits (format_at h i) m → Sends (bound m) (on_open h i number m)
  unfolding on_open
  open-sends number (In.Hello realm) f = violates-small h sized lawful i inside
  open-sends number In.Abort f = ends-quiet h sized lawful i inside Closed
  open-sends number In.Goodbye f = goodbye-small h sized lawful i inside (attached_in (format_at h i))
  open-sends number (In.Error v uri p) f =
      cond-case Small (leb v (session h i).invocation) _ _ (λ e. answer-small h sized lawful i v (Failure uri p) f) (λ e. violates-small h sized lawful i inside)
  open-sends number (In.Publish n acknowledge audience topic p) f =
      request-case h sized lawful i inside (Sends most_bytes) (more most_other most_bytes (omega arith)) n (λ g. publish g i n acknowledge audience topic p number)
      (publish-sends (numbered h i n) i n acknowledge audience topic p number inside (came-numbered n p f)
      (unfold numbered with_session in sized.subscriptions) (unfold numbered with_session in sized.members))
  open-sends number (In.Subscribe n policy topic) f = request-small h sized lawful i inside n _ (subscribe-small _ i n inside policy topic)
  open-sends number (In.Unsubscribe n id) f = request-small h sized lawful i inside n _ (unsubscribe-small _ i n inside id)
  open-sends number (In.Call n procedure p) f =
      request-small h sized lawful i inside n (λ g. call g i n procedure p)
      (call-small (numbered h i n) i n inside procedure p (came-numbered n p f) (unfold numbered with_session in owner-in h sized lawful))
  open-sends number (In.Register n policy procedure) f = request-small h sized lawful i inside n _ (register-small _ i n inside policy procedure)
  open-sends number (In.Unregister n id) f = request-small h sized lawful i inside n _ (unregister-small _ i n inside id)
  open-sends number (In.Yield v p) f =
      cond-case Small (leb v (session h i).invocation) _ _ (λ e. answer-small h sized lawful i v (Result p) f) (λ e. violates-small h sized lawful i inside)
  open-sends number In.Violation f = violates-small h sized lawful i inside

  hears-sends : (number : ℕ) (m : Incoming) (status : Phase) → Fits (format_at h i) m → Sends (bound m) (hears h i number m status)
  unfolding hears
  hears-sends number m IsOpen f = open-sends number m f
  hears-sends number m IsAttached f = more most_other (bound m) (bound-low m).0 _ (early-small h i number (early m) inside)
  hears-sends number m IsClosed f = more most_other (bound m) (bound-low m).0 _ (silent-small h)

  detach-small : (status : Phase) → Small (detaches h i status)
  unfolding detaches
  detach-small IsOpen = ends-quiet h sized lawful i inside Closed
  detach-small IsAttached = silent-small _
  detach-small IsClosed = silent-small h

  pub next-sends : (e : Event) (bytes : List ℕ) → Sends (limit h i e bytes) (next h i e bytes)
  unfolding next attaches
  next-sends (Attach f) bytes = silent-small _
  next-sends Detach bytes = detach-small (phase_at h i)
  next-sends (Message number) bytes =
      hears-sends number (read (format_at h i) bytes) (phase_at h i) (read_fits (format_at h i) bytes)
