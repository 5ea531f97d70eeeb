-- Every message that a step sends can be sent, in its receiver's format as that was before the step: its numbers are in range, its texts are
-- UTF-8 without control characters, its payload is one of that format. Assumes nothing.
use Prim.Native.Nat.{ℕ, suc, ◌+◌, ◌≤◌}
use mathlib.Core.Path.{◌≡◌, refl, sym, subst}
use mathlib.Core.Logic.{inl}
use mathlib.Core.Bool.{Bool, true, false, not, ◌&&◌}
use mathlib.Core.List.{List, [], ◌∷◌, ◌++◌}
use native.Mathlib.Decide.{dec_le}
use native.Mathlib.Omega.{arith}
use lib.ListN.{get_or}
use lib.Dec.{eqb, leb, ltb}
use borrow.Author.Tests.{eqb-true, eqb-false, leb-true, ltb-true}
use Rattle.seq.specs.declared.Format.{Format}
use Rattle.seq.specs.Lists.{All, first, joined}
use Rattle.seq.specs.Bytes.{same, Payload}
use Rattle.seq.specs.Numbers.{last_id}
use Rattle.seq.proofs.Logic.{clash, and_left, and_right, not_is, cond-case}
use Rattle.seq.proofs.Rules.{all_append, all-at, all_map}
use Rattle.seq.proofs.Search.{found-case, found-passes}
use Rattle.uri.specs.declared.Policy.TheVariants.{Exact}
use Rattle.uri.specs.Uri.{TextRule, valid_topic, valid_procedure, valid_published, valid_called}
use Rattle.uri.specs.Rule.{UriText}
use Rattle.uri.proofs.Rule.{uri-rule}
use Rattle.utf8.specs.Utf8.{well_formed}
use Rattle.pattern.specs.Choice.{no_row, is_used, row_text, fits_row, choice}
use Rattle.pattern.specs.Match.{fits_text}
use Rattle.conversion.specs.Carried.{carried}
use Rattle.conversion.proofs.Carried.{carried-case}
use Rattle.options.specs.Audience.{Audience, any_wrong}
use Rattle.incoming.specs.Incoming as In
use Rattle.incoming.specs.Read.{read}
use Rattle.outgoing.specs.Outgoing as Out
use Rattle.outgoing.specs.Outgoing.{uri_text}
use Rattle.outgoing.specs.declared.Uri.{Uri}
use Rattle.outgoing.specs.declared.Uri.TheVariants as Uri
use Rattle.spoken.specs.Parts.{InRange, Carried}
use Rattle.spoken.specs.Sent.{Sayable, Named, Sendable}
use Rattle.spoken.proofs.Sayable.{own-sayable, uri-sayable}
use Rattle.model.specs.declared.Status.{Status}
use Rattle.model.specs.declared.Status.TheVariants.{Closed}
use Rattle.model.specs.declared.Table.{Table}
use Rattle.model.specs.declared.HeldCall.{HeldCall}
use Rattle.model.specs.declared.Hub.{Hub}
use Rattle.model.specs.declared.Event.{Event}
use Rattle.model.specs.declared.Event.TheVariants.{Attach, Detach, Message}
use Rattle.model.specs.Words.{Policy, Prefix, Wildcard, Row, Some, None, Incoming, Outgoing, Answer, Result, Failure, Request, Mail, Option}
use Rattle.model.specs.State.{no_call, session, Phase, IsClosed, IsAttached, IsOpen, phase_at, format_at, attached_in, with_session, unused, owner, row_at, is_of, is_held_by, idle, serves, serves_other, call_at}
use Rattle.model.specs.Rules.{Sized, UsedRow, GoodTable, Lawful, JoinedCall}
use Rattle.model.specs.Step.{Step, Stepped, step, refused, done, Next, next, mail, silent, says, cancels, ends, violates, follows, numbered, has_number, on_place, subscribe_new, subscribe_join, subscribe, register_new, register, unsubscribe, unregister, details_for, event_to, events_to, row_events, leaves_at, acknowledged, publishes, publish_error, publish, call_error, routed, route, passed, call, conveyed, answered, answer, request, on_open, welcomes, turns_away, Early, Greets, Leaves, Wrong, early, on_attached, attaches, detaches, hears, realm_name, canceled, not_convertible}
use Rattle.model.specs.Demands.{NumberRefused}
use Rattle.model.proofs.Formats.{numbered-format}
use Rattle.model.proofs.CallSearch.{idle-none, served-is}
use Rattle.model.proofs.Chosen.{choice-used}
use Rattle.model.proofs.Demand1.{Verdict, bad-state, bad-slot, wrong-time, bad-number, no-room, all_done, verdict}
use Rattle.sendable.proofs.Payloads.{Came, carried-carried}
use Rattle.sendable.proofs.Taken.{Taken, read_taken}

-- ---- mails that can be sent
abbrev Posted : Hub → Mail → Type 0
Posted h m = Sendable (format_at h m.to) m.message

abbrev Sends : Hub → Next → Type 0
Sends h x = All (Posted h) x.mails

-- one message to slot i, whose format is that of the hub k before the step; h is the hub after it
says-sends : (k h : Hub) (i : ℕ) (m : Outgoing) → Sendable (format_at k i) m → Sends k (says h i m)
unfolding says
says-sends k h i m s = (s, tt)

silent-sends : (k h : Hub) → Sends k (silent h)
unfolding silent
silent-sends k h = tt

-- an ERROR of the hub's own in answer to a CALL
failure-sends : (f : Format) (n : ℕ) → InRange n → (u : Uri) → Sendable f (Out.Reply n (Failure (uri_text u) []))
failure-sends f n r u = (r, own-sayable f u, (inl refl, tt))

-- ---- the numbers of a lawful hub
abbrev RowsIn : List Row → Type 0
RowsIn rs = All (λ r. unused r ≡ false → InRange r.number) rs

abbrev CallsIn : List HeldCall → Type 0
CallsIn cs = All (λ c. idle c ≡ false → InRange c.request) cs

rows_in : (h : Hub) (rule : TextRule) (Wanted : ℕ → Type 0) (t : Table) → GoodTable h rule Wanted t → t.counter ≤ last_id → RowsIn t.rows
rows_in h rule Wanted t g l =
    all_map (λ r. unused r ≡ false → UsedRow h t.counter rule Wanted r) (λ r. unused r ≡ false → InRange r.number)
    (λ r used u.
    let n = eqb-false r.number 0 u in
    let m = (used u).number in
    (omega (arith, n), omega arith))
    t.rows g.each

row_in : (rs : List Row) → RowsIn rs → (k : ℕ) → unused (get_or rs k no_row) ≡ false → InRange (get_or rs k no_row).number
row_in rs a k u = all-at (λ r. unused r ≡ false → InRange r.number) no_row rs k (λ f. clash refl f) a u

call-in : (h : Hub) → Lawful h → (c : HeldCall) → (idle c ≡ false → JoinedCall h c) → idle c ≡ false → InRange c.request
unfolding idle
call-in h lawful c j u =
    let n = eqb-false c.request 0 u in
    let l = (j u).request in
    let m = (lawful.counters c.caller).0 in
    (omega (arith, n), omega arith)

calls-in : (h : Hub) → Lawful h → CallsIn h.calls
calls-in h lawful =
    all_map (λ c. idle c ≡ false → JoinedCall h c) (λ c. idle c ≡ false → InRange c.request) (call-in h lawful) h.calls lawful.joined

follows-in : (last n : ℕ) → follows last n ≡ true → InRange n
unfolding follows
follows-in last n e =
    let s = eqb-true n (suc last) (and_left (eqb n (suc last)) (leb n last_id) e) in
    let l = leb-true n last_id (and_right (eqb n (suc last)) (leb n last_id) e) in
    (omega arith, l)

-- ---- a session's end
cancels-sends : (h : Hub) (i : ℕ) (cs : List HeldCall) → CallsIn cs → All (Posted h) (cancels i cs)
unfolding cancels serves_other
cancels-sends h i [] a = tt
cancels-sends h i (c ∷ cs) a =
    let r = cancels-sends h i cs a.1 in
    cond-case (All (Posted h)) (serves_other i c) (mail c.caller (Out.Reply c.request canceled) ∷ cancels i cs) (cancels i cs)
    (λ t. (failure-sends (format_at h c.caller) c.request (a.0 (not_is (idle c) (and_left (not (idle c)) _ t))) Uri.Canceled, r))
    (λ t. r)

module _ (h : Hub) (lawful : Lawful h) (i : ℕ) where
  ends-sends : (status : Status) (own : List Mail) → All (Posted h) own → Sends h (ends h i status own)
  unfolding ends
  ends-sends status own a = all_append (Posted h) own (cancels i h.calls) a (cancels-sends h i h.calls (calls-in h lawful))

  violates-sends : Sends h (violates h i)
  unfolding violates
  violates-sends = ends-sends Closed _ (own-sayable (format_at h i) Uri.ProtocolViolation, tt)

  -- a request is served, or a violation; its number leaves the formats
  request-sends : (n : ℕ) (serve : Hub → Next) → (InRange n → Sends (numbered h i n) (serve (numbered h i n))) → Sends h (request h i n serve)
  unfolding request
  request-sends n serve p =
      cond-case (Sends h) (follows (session h i).request n) (serve (numbered h i n)) (violates h i)
      (λ e.
      all_map (Posted (numbered h i n)) (Posted h)
      (λ m s. subst (λ (f : Format). Sendable f m.message) (numbered-format h i n m.to) s)
      (serve (numbered h i n)).mails (p (follows-in (session h i).request n e)))
      (λ e. violates-sends)

-- ---- requests; g is the hub with the request's number
module _ (g : Hub) (i n : ℕ) (number : InRange n) where
  error-sends : (r : Request) (u : Uri) → Sends g (says g i (Out.Error r n (uri_text u)))
  error-sends r u = says-sends g g i _ (number, own-sayable (format_at g i) u)

  -- a table's next number
  place-sends : (t : Table) (found : ℕ → Next) (none : Next) → (InRange (t.counter + 1) → (k : ℕ) → Sends g (found k)) → Sends g none
      → Sends g (on_place t found none)
  unfolding on_place has_number
  place-sends t found none p q =
      cond-case (Sends g) (ltb t.counter last_id) _ none
      (λ e.
      let l = ltb-true t.counter last_id e in
      found-case (Sends g) (first unused t.rows) found none (λ k f. p (omega arith, omega arith) k) (λ f. q))
      (λ e. q)

  subscribe-sends : RowsIn g.subscriptions.rows → (policy : Option Policy) (topic : List ℕ) → Sends g (subscribe g i n policy topic)
  unfolding subscribe subscribe_join subscribe_new is_of
  subscribe-sends rows None topic = error-sends _ Uri.InvalidArgument
  subscribe-sends rows (Some policy) topic =
      cond-case (Sends g) (valid_topic topic policy) _ _
      (λ e. found-case (Sends g) (first (is_of policy topic) g.subscriptions.rows) _ _
      (λ k f.
      let r = row_at g.subscriptions k in
      let p = found-passes (is_of policy topic) no_row g.subscriptions.rows k f in
      says-sends g _ i _ (number, row_in g.subscriptions.rows rows k (not_is (unused r) (and_left (not (unused r)) _ p))))
      (λ f. place-sends _ _ _ (λ next k. says-sends g _ i _ (number, next)) (error-sends _ Uri.NoRoom)))
      (λ e. error-sends _ Uri.InvalidUri)

  register-sends : (policy : Option Policy) (procedure : List ℕ) → Sends g (register g i n policy procedure)
  unfolding register register_new
  register-sends None procedure = error-sends _ Uri.InvalidArgument
  register-sends (Some policy) procedure =
      cond-case (Sends g) (valid_procedure procedure policy) _ _
      (λ e. found-case (Sends g) (first (is_of policy procedure) g.registrations.rows) _ _
      (λ k f. error-sends _ Uri.ProcedureAlreadyExists)
      (λ f. place-sends _ _ _ (λ next k. says-sends g _ i _ (number, next)) (error-sends _ Uri.NoRoom)))
      (λ e. error-sends _ Uri.InvalidUri)

  unsubscribe-sends : (id : ℕ) → Sends g (unsubscribe g i n id)
  unfolding unsubscribe
  unsubscribe-sends id =
      found-case (Sends g) (first (is_held_by i id) g.subscriptions.rows) _ _
      (λ k f. says-sends g _ i _ number)
      (λ f. error-sends _ Uri.NoSuchSubscription)

  unregister-sends : (id : ℕ) → Sends g (unregister g i n id)
  unfolding unregister
  unregister-sends id =
      found-case (Sends g) (first (is_held_by i id) g.registrations.rows) _ _
      (λ k f. says-sends g _ i _ number)
      (λ f. error-sends _ Uri.NoSuchRegistration)

-- ---- the Details of an EVENT or INVOCATION
details-named : (f : Format) (policy : Policy) (uri : List ℕ) → Sayable f uri → Named f (details_for policy uri)
unfolding details_for
details-named f Exact uri s = tt
details-named f Prefix uri s = s
details-named f Wildcard uri s = s

-- ---- CALL
module _ (g : Hub) (i n : ℕ) (number : InRange n) where
  call-error-sends : (u : Uri) → Sends g (call_error g i n (uri_text u))
  unfolding call_error
  call-error-sends u = says-sends g g i _ (failure-sends (format_at g i) n number u)

  module _ (r : Row) (registration : InRange r.number) (procedure : List ℕ) (say : (f : Format) → Sayable f procedure) where
    route-sends : (p : Payload) → Carried (format_at g (owner r)) p → Sends g (route g i n r procedure p)
    unfolding route routed
    route-sends p c =
        cond-case (Sends g) (ltb (session g (owner r)).invocation last_id) _ _
        (λ e. found-case (Sends g) (first idle g.calls) _ _
        (λ k f.
        let l = ltb-true (session g (owner r)).invocation last_id e in
        says-sends g _ (owner r) _ ((omega arith, omega arith), registration, details-named (format_at g (owner r)) r.policy procedure (say (format_at g (owner r))), c))
        (λ f. call-error-sends Uri.NoRoom))
        (λ e. call-error-sends Uri.NoRoom)

    passed-sends : (p : Payload) → Came (format_at g i) p → Sends g (passed g i n r procedure p)
    unfolding passed
    passed-sends p c =
        carried-case (Sends g) (carried (format_at g i) (format_at g (owner r)) p) _ _
        (λ q e. route-sends q (carried-carried (format_at g i) (format_at g (owner r)) p q c e))
        (λ e. call-error-sends Uri.NotConvertible)

  call-sends : RowsIn g.registrations.rows → (procedure : List ℕ) → well_formed procedure ≡ true → (p : Payload) → Came (format_at g i) p
      → Sends g (call g i n procedure p)
  unfolding call
  call-sends rows procedure u p c =
      cond-case (Sends g) (valid_called procedure) _ _
      (λ e. found-case (Sends g) (choice g.registrations.rows procedure) _ _
      (λ k f.
      passed-sends (row_at g.registrations k)
      (row_in g.registrations.rows rows k (choice-used g.registrations.rows procedure k f).1)
      procedure (λ f. uri-sayable f Exact procedure u ((uri-rule.called procedure).0 e)) p c)
      (λ f. call-error-sends Uri.NoSuchProcedure))
      (λ e. call-error-sends Uri.InvalidUri)

-- ---- YIELD and ERROR
-- an answer that came in a format
abbrev CameAnswer : Format → Answer → Type 0
CameAnswer f (Result p) = Came f p
CameAnswer f (Failure uri p) = (well_formed uri ≡ true) × UriText Exact uri × Came f p

conveyed-sends : (f g : Format) (n : ℕ) → InRange n → (a : Answer) → CameAnswer f a → Sendable g (Out.Reply n (conveyed f g a))
unfolding conveyed
conveyed-sends f g n r (Result p) c =
    carried-case (λ a. Sendable g (Out.Reply n a)) (carried f g p) Result not_convertible
    (λ q e. (r, carried-carried f g p q c e))
    (λ e. failure-sends g n r Uri.NotConvertible)
conveyed-sends f g n r (Failure uri p) (u, k, c) =
    carried-case (λ a. Sendable g (Out.Reply n a)) (carried f g p) (Failure uri) not_convertible
    (λ q e. (r, uri-sayable g Exact uri u k, carried-carried f g p q c e))
    (λ e. failure-sends g n r Uri.NotConvertible)

answer-sends : (h : Hub) → Lawful h → (i v : ℕ) (a : Answer) → CameAnswer (format_at h i) a → Sends h (answer h i v a)
unfolding answer answered
answer-sends h lawful i v a c =
    found-case (Sends h) (first (serves i v) h.calls) _ _
    (λ k f.
    let held = served-is i v (call_at h k) (found-passes (serves i v) no_call h.calls k f) in
    let r = all-at (λ c. idle c ≡ false → InRange c.request) no_call h.calls k (λ z. clash idle-none z) (calls-in h lawful) held.0 in
    says-sends h _ (call_at h k).caller _ (conveyed-sends (format_at h i) (format_at h (call_at h k).caller) (call_at h k).request r a c))
    (λ f. silent-sends h h)

-- ---- a slot without a session; the lent number is the session's
early-sends : (h : Hub) (i number : ℕ) → InRange number → (m : Early) → Sends h (on_attached h i number m)
unfolding on_attached welcomes turns_away
early-sends h i number r (Greets realm) =
    cond-case (Sends h) (same realm realm_name) _ _
    (λ e. says-sends h _ i _ r)
    (λ e. says-sends h _ i _ (own-sayable (format_at h i) Uri.NoSuchRealm))
early-sends h i number r Leaves = silent-sends h _
early-sends h i number r Wrong = says-sends h _ i _ (own-sayable (format_at h i) Uri.ProtocolViolation)

-- ---- PUBLISH
events-sends : (h : Hub) (event : ℕ → List Mail) → ((j : ℕ) → All (Posted h) (event j)) → (to : ℕ → Bool) (j : ℕ) (bs : List Bool)
    → All (Posted h) (events_to event to j bs)
unfolding events_to
events-sends h event each to j [] = tt
events-sends h event each to j (b ∷ bs) =
    let r = events-sends h event each to (suc j) bs in
    cond-case (All (Posted h)) (b && to j) (event j ++ events_to event to (suc j) bs) (events_to event to (suc j) bs)
    (λ t. all_append (Posted h) (event j) (events_to event to (suc j) bs) (each j) r)
    (λ t. r)

module _ (g : Hub) (i : ℕ) (to : ℕ → Bool) (publication : ℕ) (lent : InRange publication) (topic : List ℕ) (say : (f : Format) → Sayable f topic) (p : Payload)
    (came : Came (format_at g i) p) where
  event-sends : (r : Row) → InRange r.number → (j : ℕ)
      → All (Posted g) (event_to g i (Out.Event r.number publication (details_for r.policy topic)) p j)
  unfolding event_to
  event-sends r subscription j =
      carried-case (All (Posted g)) (carried (format_at g i) (format_at g j) p) _ _
      (λ q e. (
        (subscription, lent, details-named (format_at g j) r.policy topic (say (format_at g j)), carried-carried (format_at g i) (format_at g j) p q came e),
        tt,
      ))
      (λ e. tt)

  row-sends : (r : Row) → (unused r ≡ false → InRange r.number) → All (Posted g) (row_events g i to publication topic p r)
  unfolding row_events fits_row
  row-sends r number =
      cond-case (All (Posted g)) (fits_row topic r) _ []
      (λ t.
      let used = not_is (unused r) (and_left (is_used r) (fits_text r.policy (row_text r) topic) t) in
      events-sends g _ (event-sends r (number used)) to 0 r.holders)
      (λ t. tt)

  rows-sends : (rs : List Row) → RowsIn rs → All (Posted g) (joined (row_events g i to publication topic p) rs)
  rows-sends [] a = tt
  rows-sends (r ∷ rs) a =
      all_append (Posted g) (row_events g i to publication topic p r) (joined (row_events g i to publication topic p) rs) (row-sends r a.0) (rows-sends rs a.1)

-- PUBLISHED, or the ERROR in its place
acknowledged-sends : (g : Hub) (t : Bool) (m : Mail) → Posted g m → All (Posted g) (acknowledged t m)
unfolding acknowledged
acknowledged-sends g true m a = (a, tt)
acknowledged-sends g false m a = tt

failed-sends : (g : Hub) (i n : ℕ) → InRange n → (acknowledge : Bool) (uri : Uri) → Sends g (publish_error g i n acknowledge (uri_text uri))
unfolding publish_error
failed-sends g i n number acknowledge uri =
    acknowledged-sends g acknowledge (mail i (Out.Error Out.Publish n (uri_text uri))) (number, own-sayable (format_at g i) uri)

publish-sends : (g : Hub) (i n : ℕ) → InRange n → (acknowledge : Bool) (audience : Audience) (topic : List ℕ) → well_formed topic ≡ true → (p : Payload)
    → Came (format_at g i) p → (publication : ℕ) → InRange publication → RowsIn g.subscriptions.rows
    → Sends g (publish g i n acknowledge audience topic p publication)
unfolding publish publishes
publish-sends g i n number acknowledge audience topic u p came publication lent rows =
    let published = mail i (Out.Published n publication) in
    let to = leaves_at g i audience in
    cond-case (Sends g) (any_wrong audience) _ _ (λ e. failed-sends g i n number acknowledge Uri.InvalidArgument)
    (λ e.
    cond-case (Sends g) (valid_published topic) _ _
    (λ e.
    let say : (f : Format) → Sayable f topic = λ f. uri-sayable f Exact topic u ((uri-rule.published topic).0 e).0 in
    all_append (Posted g) (acknowledged acknowledge published) (joined (row_events g i to publication topic p) g.subscriptions.rows)
    (acknowledged-sends g acknowledge published (number, lent))
    (rows-sends g i to publication lent topic say p came g.subscriptions.rows rows))
    (λ e. failed-sends g i n number acknowledge Uri.InvalidUri))

-- ---- every step
-- the lent number of a message
abbrev Lent : Event → Type 0
Lent (Attach f) = Unit {0}
Lent Detach = Unit {0}
Lent (Message number) = InRange number

module _ (h : Hub) (lawful : Lawful h) (i : ℕ) where
  subscriptions-in : RowsIn h.subscriptions.rows
  subscriptions-in = rows_in h valid_topic _ h.subscriptions lawful.subscriptions lawful.subscription_counter

  registrations-in : RowsIn h.registrations.rows
  registrations-in = rows_in h valid_procedure _ h.registrations lawful.registrations lawful.registration_counter

  came-numbered : (n : ℕ) (p : Payload) → Came (format_at h i) p → Came (format_at (numbered h i n) i) p
  came-numbered n p c = subst (λ (f : Format). Came f p) (sym (numbered-format h i n i)) c

  open-sends : (number : ℕ) → InRange number → (m : Incoming) → Taken (format_at h i) m → Sends h (on_open h i number m)
  unfolding on_open
  open-sends number l (In.Hello realm) t = violates-sends h lawful i
  open-sends number l In.Abort t = ends-sends h lawful i Closed [] tt
  open-sends number l In.Goodbye t = ends-sends h lawful i (attached_in (format_at h i)) _ (own-sayable (format_at h i) Uri.GoodbyeAndOut, tt)
  open-sends number l (In.Error v uri p) t =
      cond-case (Sends h) (leb v (session h i).invocation) _ _ (λ e. answer-sends h lawful i v (Failure uri p) t) (λ e. violates-sends h lawful i)
  open-sends number l (In.Publish n acknowledge audience topic p) (u, c) =
      request-sends h lawful i n (λ g. publish g i n acknowledge audience topic p number)
      (λ r. publish-sends (numbered h i n) i n r acknowledge audience topic u p (came-numbered n p c) number l (unfold numbered with_session in subscriptions-in))
  open-sends number l (In.Subscribe n policy topic) t =
      request-sends h lawful i n _ (λ r. subscribe-sends (numbered h i n) i n r (unfold numbered with_session in subscriptions-in) policy topic)
  open-sends number l (In.Unsubscribe n id) t = request-sends h lawful i n _ (λ r. unsubscribe-sends (numbered h i n) i n r id)
  open-sends number l (In.Call n procedure p) (u, c) =
      request-sends h lawful i n (λ g. call g i n procedure p)
      (λ r. call-sends (numbered h i n) i n r (unfold numbered with_session in registrations-in) procedure u p (came-numbered n p c))
  open-sends number l (In.Register n policy procedure) t = request-sends h lawful i n _ (λ r. register-sends (numbered h i n) i n r policy procedure)
  open-sends number l (In.Unregister n id) t = request-sends h lawful i n _ (λ r. unregister-sends (numbered h i n) i n r id)
  open-sends number l (In.Yield v p) t =
      cond-case (Sends h) (leb v (session h i).invocation) _ _ (λ e. answer-sends h lawful i v (Result p) t) (λ e. violates-sends h lawful i)
  open-sends number l In.Violation t = violates-sends h lawful i

  hears-sends : (number : ℕ) → InRange number → (m : Incoming) (status : Phase) → Taken (format_at h i) m → Sends h (hears h i number m status)
  unfolding hears
  hears-sends number l m IsOpen t = open-sends number l m t
  hears-sends number l m IsAttached t = early-sends h i number l (early m)
  hears-sends number l m IsClosed t = silent-sends h h

  detach-sends : (status : Phase) → Sends h (detaches h i status)
  unfolding detaches
  detach-sends IsOpen = ends-sends h lawful i Closed [] tt
  detach-sends IsAttached = silent-sends h _
  detach-sends IsClosed = silent-sends h h

  next-sends : (e : Event) (bytes : List ℕ) → Lent e → Sends h (next h i e bytes)
  unfolding next attaches
  next-sends (Attach f) bytes l = silent-sends h _
  next-sends Detach bytes l = detach-sends (phase_at h i)
  next-sends (Message number) bytes l =
      hears-sends number l (read (format_at h i) bytes) (phase_at h i) (read_taken (format_at h i) bytes)

-- where the lent number is not refused
lent-in : (h : Hub) (i : ℕ) (e : Event) (bytes : List ℕ) → ¬ (NumberRefused h i e bytes) → Lent e
lent-in h i (Attach f) bytes n = tt
lent-in h i Detach bytes n = tt
lent-in h i (Message number) bytes n = (
  elim (dec_le 1 number) [ yes l ↦ l | no l ↦ absurd (n (inl (λ r. l r.0))) ],
  elim (dec_le number last_id) [ yes l ↦ l | no l ↦ absurd (n (inl (λ r. l r.1))) ],
)

-- ---- the claim; a refused step sends nothing
module _ (h : Hub) (x : Step) (room : ℕ) where
  verdict-sends : {y : Stepped} → Verdict h x room y → All (Posted h) y.mails
  unfolding refused done
  verdict-sends (bad-state p) = tt
  verdict-sends (bad-slot p) = tt
  verdict-sends (wrong-time p) = tt
  verdict-sends (bad-number p) = tt
  verdict-sends (no-room p) = tt
  verdict-sends (all_done ((((lawful, inside), time), number), fits)) =
      next-sends h lawful x.slot x.event x.bytes (lent-in h x.slot x.event x.bytes number)

  pub step-sendable : Sized h → All (λ m. Sendable (format_at h m.to) m.message) (step h x room).mails
  step-sendable sized = verdict-sends (verdict h x room sized)
