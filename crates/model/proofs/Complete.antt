-- The second statements of demands 1 and 2 (specs/Complete.antt), for every hub, step and room. Assumes nothing.
use Rattle.std.specs.Prelude.{None}
use Prim.Native.Nat.{ℕ, ◌+◌, ◌≤◌}
use mathlib.Core.Path.{◌≡◌, refl, sym, ◌∙◌, ap}
use mathlib.Core.Logic.{◌⊎◌, inl, inr, ◌↔◌}
use mathlib.Core.Bool.{true, false, cond}
use mathlib.Core.List.{List, []}
use native.Mathlib.Omega.{arith}
use lib.ListN.{length}
use lib.Dec.{leb, ltb}
use borrow.Author.Tests.{le-leb}
use Rattle.seq.specs.Bytes.{Payload}
use Rattle.seq.specs.Numbers.{last_id}
use Rattle.seq.specs.Lists.{first}
use Rattle.seq.proofs.Logic.{split, cond-case}
use Rattle.seq.proofs.Search.{split-found, found-case}
use Rattle.uri.specs.Uri.{valid_called}
use Rattle.pattern.specs.declared.Row.{Row}
use Rattle.pattern.specs.Choice.{fits_row, choice}
use Rattle.pattern.proofs.Chosen.{matching}
use Rattle.incoming.specs.Incoming as In
use Rattle.incoming.specs.Incoming.{Incoming}
use Rattle.incoming.specs.Read.{read}
use Rattle.outgoing.specs.Outgoing as Out
use Rattle.outgoing.specs.Outgoing.{Answer, Failure, Result, uri_text}
use Rattle.conversion.specs.Carried.{carried}
use Rattle.conversion.proofs.Carried.{carried-case}
use Rattle.outgoing.specs.Layout.{Mail}
use Rattle.outgoing.specs.declared.Uri.TheVariants as Uri
use Rattle.model.specs.declared.Status.{Status}
use Rattle.model.specs.declared.Status.TheVariants.{Closed}
use Rattle.model.specs.declared.Hub.{Hub}
use Rattle.model.specs.declared.Event.{Event}
use Rattle.model.specs.declared.Event.TheVariants.{Attach, Detach, Message}
use Rattle.model.specs.declared.Outcome.TheVariants.{Done, NoRoom}
use Rattle.model.specs.State.{no_call, session, Phase, IsClosed, IsAttached, IsOpen, phase, phase_at, format_at, attached_in, with_session, row_at, idle, serves, owner, with_call}
use Rattle.model.specs.Rules.{OpenAt, Sized, Lawful}
use Rattle.model.specs.Step.{Step, Next, mail, silent, says, ends, violates, follows, numbered, issued, request, on_open, early, on_attached, accepts, attaches, detaches, hears, next, wrong_time, bad_number, call_error, routed, route, passed, call, output_of, answered, answer, done, step}
use Rattle.model.specs.Run.{In}
use Rattle.model.specs.Demands.{Asked, OwnMessage, quiet, goodbye, abort}
use Rattle.model.specs.Complete.{NeedsNoNumber, lending, Complete}
use Rattle.outgoing.proofs.Lengths.{layout-bound}
use Rattle.model.proofs.Formats.{status-keep}
use Rattle.model.proofs.Covered.{covered}
use Rattle.model.proofs.Told.{told}
use Rattle.model.proofs.Decided.{follows-true}
use Rattle.model.proofs.Demand1.{demand1, next_of, step-goes, accepted}
use Rattle.model.proofs.Quiet.{Quiet, subscribe-quiet, register-quiet, unsubscribe-quiet, unregister-quiet, publish-quiet}
use Rattle.model.proofs.Passing.{places, places-rising}
use Rattle.model.proofs.EndsWith.{served_at, rows-exactly, cancel-mails}
use Rattle.model.proofs.Room.{end_fits}
use Rattle.model.proofs.Keeps.{step-lawful}

-- ---- the lent number
by-status : (f g : Phase → Next) → f IsOpen ≡ g IsOpen → f IsAttached ≡ g IsAttached → f IsClosed ≡ g IsClosed → (s : Phase) → f s ≡ g s
by-status f g o a c IsOpen = o
by-status f g o a c IsAttached = a
by-status f g o a c IsClosed = c

module _ (h : Hub) (i a b : ℕ) where
  same-hears : (m : Incoming) → NeedsNoNumber m → (s : Phase) → hears h i a m s ≡ hears h i b m s
  unfolding hears on_open on_attached early
  same-hears (In.Hello realm) k = absurd (k.0 realm refl)
  same-hears In.Abort k = by-status (hears h i a In.Abort) (hears h i b In.Abort) refl refl refl
  same-hears In.Goodbye k = by-status (hears h i a In.Goodbye) (hears h i b In.Goodbye) refl refl refl
  same-hears (In.Error v uri p) k = by-status (hears h i a (In.Error v uri p)) (hears h i b (In.Error v uri p)) refl refl refl
  same-hears (In.Publish n w u s p) k = absurd (k.1 n w u s p refl)
  same-hears (In.Subscribe n m s) k = by-status (hears h i a (In.Subscribe n m s)) (hears h i b (In.Subscribe n m s)) refl refl refl
  same-hears (In.Unsubscribe n id) k = by-status (hears h i a (In.Unsubscribe n id)) (hears h i b (In.Unsubscribe n id)) refl refl refl
  same-hears (In.Call n s p) k = by-status (hears h i a (In.Call n s p)) (hears h i b (In.Call n s p)) refl refl refl
  same-hears (In.Register n m s) k = by-status (hears h i a (In.Register n m s)) (hears h i b (In.Register n m s)) refl refl refl
  same-hears (In.Unregister n id) k = by-status (hears h i a (In.Unregister n id)) (hears h i b (In.Unregister n id)) refl refl refl
  same-hears (In.Yield v p) k = by-status (hears h i a (In.Yield v p)) (hears h i b (In.Yield v p)) refl refl refl
  same-hears In.Violation k = by-status (hears h i a In.Violation) (hears h i b In.Violation) refl refl refl

lent : (h : Hub) (x : Step) (room a b : ℕ) → 1 ≤ a → a ≤ last_id → 1 ≤ b → b ≤ last_id → NeedsNoNumber (read (format_at h x.slot) x.bytes)
    → step h (lending x a) room ≡ step h (lending x b) room
unfolding step next bad_number wrong_time
lent h x room a b p q r s k =
    let i = x.slot in
    let m = read (format_at h i) x.bytes in
    let z : accepts (phase_at h i) (early m) ≡ false =
    split (accepts (phase_at h i) (early m)) (λ t. absurd (k.0 _ (accepted (phase_at h i) m t).1)) (λ t. t)
    in
    rw (le-leb 1 a p, le-leb a last_id q, le-leb 1 b r, le-leb b last_id s, z, same-hears h i a b m k (phase_at h i))

-- ---- no_such_procedure
-- a done step sends what its event leads to
done-is : (h : Hub) (x : Step) (room : ℕ) → Sized h → (step h x room).outcome ≡ Done
    → step h x room ≡ done h (next_of h x room)
done-is h x room sized e = let d = (demand1 h x room sized).done.0 e in step-goes h x room d.0 d.1

within : (h : Hub) (x : Step) (room : ℕ) → Sized h → (step h x room).outcome ≡ Done → (step h x room).count ≤ room
unfolding done
within h x room sized e = rw (done-is h x room sized e) ((demand1 h x room sized).done.0 e).1

roomier : (h : Hub) (x : Step) (room : ℕ) → Sized h → (step h x room).outcome ≡ Done → (more : ℕ) → room ≤ more → step h x more ≡ step h x room
roomier h x room sized e more l =
    let d = (demand1 h x room sized).done.0 e in
    let f = d.1 in
    step-goes h x more d.0 (omega arith) ∙ sym (done-is h x room sized e)

abbrev unknown_mail : ℕ → ℕ → Mail
unknown_mail i n = mail i (Out.Reply n (Failure (uri_text Uri.NoSuchProcedure) []))

module _ (g : Hub) (i n : ℕ) (s : List ℕ) (p : Payload) where
  -- a call to a registration says something else
  full-else : In (unknown_mail i n) (call_error g i n (uri_text Uri.NoRoom)).mails → ⊥
  unfolding call_error says
  full-else (inl e) =
      let m = ap (λ (x : Mail). x.message) e in
      let q : uri_text Uri.NoSuchProcedure ≡ uri_text Uri.NoRoom = cc in
      let z = ap length q in
      omega arith
  full-else (inr e) = e

  unlike-else : In (unknown_mail i n) (call_error g i n (uri_text Uri.NotConvertible)).mails → ⊥
  unfolding call_error says
  unlike-else (inl e) =
      let m = ap (λ (x : Mail). x.message) e in
      let q : uri_text Uri.NoSuchProcedure ≡ uri_text Uri.NotConvertible = cc in
      let z = ap length q in
      omega arith
  unlike-else (inr e) = e

  routed-else : (r : Row) (k : ℕ) (q : Payload) → In (unknown_mail i n) (routed g i n r k s q).mails → ⊥
  unfolding routed says
  routed-else r k q (inl e) =
      let m = ap (λ (x : Mail). x.message) e in
      let z : ◌≡◌ {A = ℕ} 0 1 = cc in
      omega arith
  routed-else r k q (inr e) = e

  route-else : (r : Row) (q : Payload) → In (unknown_mail i n) (route g i n r s q).mails → ⊥
  unfolding route
  route-else r q =
      split (ltb (session g (owner r)).invocation last_id)
      (λ t. rw t (split-found (first idle g.calls) (λ k e. rw e (routed-else r k q)) (λ e. rw e full-else)))
      (λ t. rw t full-else)

  passed-else : (r : Row) → In (unknown_mail i n) (passed g i n r s p).mails → ⊥
  unfolding passed
  passed-else r =
      carried-case (λ (x : Next). In (unknown_mail i n) x.mails → ⊥) (carried (format_at g i) (format_at g (owner r)) p) _ _
      (λ q _. route-else r q) (λ _. unlike-else)

  call-unknown : valid_called s ≡ true → In (unknown_mail i n) (call g i n s p).mails ↔ (choice g.registrations.rows s ≡ None)
  unfolding call call_error says
  call-unknown v =
      rw v
      (split-found (choice g.registrations.rows s)
      (λ k e. (λ q. absurd (passed-else (row_at g.registrations k) (rw e at q)), λ z. absurd (let w : ◌≡◌ {A = ℕ} 0 1 = cc in omega arith)))
      (λ e. (λ q. e, λ z. rw e (inl refl))))

-- what a CALL in order leads to
called_is : (h : Hub) (x : Step) (i number n : ℕ) (s : List ℕ) (p : Payload) → Asked h x i number n (In.Call n s p)
    → next h x.slot x.event x.bytes ≡ call (numbered h i n) i n s p
unfolding next hears on_open request
called_is h x i number n s p a =
    let on = a.heard.on in
    rw (on.slot, on.event, on.status, a.heard.message, follows-true (session h i).request n a.next a.limit)

unknown : (h : Hub) (x : Step) (room i number n : ℕ) (s : List ℕ) (p : Payload) → Asked h x i number n (In.Call n s p) → valid_called s ≡ true
    → (step h x room).outcome ≡ Done
    → In (unknown_mail i n) (step h x room).mails ↔ ((k : ℕ) → fits_row s (row_at h.registrations k) ≡ false)
unfolding done numbered with_session
unknown h x room i number n s p a v e =
    let f = matching.nothing-exactly h.registrations.rows s in
    let m : (step h x room).mails ≡ (call (numbered h i n) i n s p).mails =
    rw (done-is h x room a.heard.on.sized e, called_is h x i number n s p a)
    in
    let c = call-unknown (numbered h i n) i n s p v in
    (λ u. f.0 (c.0 (rw m at u)), λ u. rw m (c.1 (f.1 u)))

-- ---- a session's end is short
-- a slot's session stays open, or the output is short
abbrev Stays : Hub → ℕ → Next → Type 0
Stays h i x = OpenAt x.hub i ⊎ (length (output_of h x.mails) ≤ 2048)

module _ (h g : Hub) (i : ℕ) (o : OpenAt g i) where
  -- requests other than CALL
  quiet-stays : (x : Next) → Quiet g x → Stays h i x
  unfolding session
  quiet-stays x q = inl (rw q.sessions o)

  -- CALL
  error-stays : (n : ℕ) (uri : List ℕ) → Stays h i (call_error g i n uri)
  unfolding call_error says
  error-stays n uri = inl o

  routed-stays : (n : ℕ) (r : Row) (k : ℕ) (s : List ℕ) (p : Payload) → Stays h i (routed g i n r k s p)
  unfolding routed says with_call issued with_session session
  routed-stays n r k s p = inl (ap phase (status-keep g.sessions (owner r) _ refl i) ∙ o)

  route-stays : (n : ℕ) (r : Row) (s : List ℕ) (p : Payload) → Stays h i (route g i n r s p)
  unfolding route
  route-stays n r s p =
      cond-case (Stays h i) (ltb (session g (owner r)).invocation last_id) _ _
      (λ _. found-case (Stays h i) (first idle g.calls) _ _ (λ k _. routed-stays n r k s p) (λ _. error-stays n _))
      (λ _. error-stays n _)

  passed-stays : (n : ℕ) (r : Row) (s : List ℕ) (p : Payload) → Stays h i (passed g i n r s p)
  unfolding passed
  passed-stays n r s p =
      carried-case (Stays h i) (carried (format_at g i) (format_at g (owner r)) p) _ _ (λ q _. route-stays n r s q) (λ _. error-stays n _)

  call_stays : (n : ℕ) (s : List ℕ) (p : Payload) → Stays h i (call g i n s p)
  unfolding call
  call_stays n s p =
      cond-case (Stays h i) (valid_called s) _ _
      (λ _.
      found-case (Stays h i) (choice g.registrations.rows s) _ _
      (λ r _. passed-stays n (row_at g.registrations r) s p)
      (λ _. error-stays n _))
      (λ _. error-stays n _)

  -- YIELD and ERROR
  answer-stays : (v : ℕ) (a : Answer) → Stays h i (answer g i v a)
  unfolding answer answered says silent with_call session
  answer-stays v a = found-case (Stays h i) (first (serves i v) g.calls) _ _ (λ _ _. inl o) (λ _. inl o)

module _ (h : Hub) (sized : Sized h) (lawful : Lawful h) (i : ℕ) where
  ends-short : (status : Status) (own : List Mail) → OwnMessage i own → length (output_of h (ends h i status own).mails) ≤ 2048
  unfolding ends
  ends-short status own o =
      rw (cancel-mails h i 0 h.calls (λ m. let q : 0 + m ≡ m = omega arith in rw q))
      (end_fits h sized lawful i own (places (served_at i) 0 h.calls) o (places-rising (served_at i) no_call h.calls 0)
      (λ k p. (rows-exactly h i k).0 p))

  violates-short : Stays h i (violates h i)
  unfolding violates
  violates-short = inr (ends-short Closed _ abort)

  -- on an open session
  module _ (o : OpenAt h i) where
    request-stays : (n : ℕ) (serve : Hub → Next) → ((g : Hub) → OpenAt g i → Stays h i (serve g)) → Stays h i (request h i n serve)
    unfolding request
    request-stays n serve f =
        cond-case (Stays h i) (follows (session h i).request n) _ _
        (λ _. f (numbered h i n) (unfold numbered with_session session in ap phase (status-keep h.sessions i _ refl i) ∙ o))
        (λ _. violates-short)

    answers_stay : (v : ℕ) (a : Answer) → Stays h i (cond (leb v (session h i).invocation) (answer h i v a) (violates h i))
    answers_stay v a = cond-case (Stays h i) (leb v (session h i).invocation) _ _ (λ _. answer-stays h h i o v a) (λ _. violates-short)

    open_stays : (number : ℕ) (m : Incoming) → Stays h i (on_open h i number m)
    unfolding on_open
    open_stays number (In.Hello realm) = violates-short
    open_stays number In.Abort = inr (ends-short Closed [] quiet)
    open_stays number In.Goodbye = inr (ends-short (attached_in (format_at h i)) _ goodbye)
    open_stays number (In.Error v uri p) = answers_stay v (Failure uri p)
    open_stays number (In.Publish n w u s p) = request-stays n _ (λ g k. quiet-stays h g i k _ (publish-quiet g i n w u s p number))
    open_stays number (In.Subscribe n m s) = request-stays n _ (λ g k. quiet-stays h g i k _ (subscribe-quiet g i n m s))
    open_stays number (In.Unsubscribe n id) = request-stays n _ (λ g k. quiet-stays h g i k _ (unsubscribe-quiet g i n id))
    open_stays number (In.Call n s p) = request-stays n _ (λ g k. call_stays h g i k n s p)
    open_stays number (In.Register n m s) = request-stays n _ (λ g k. quiet-stays h g i k _ (register-quiet g i n m s))
    open_stays number (In.Unregister n id) = request-stays n _ (λ g k. quiet-stays h g i k _ (unregister-quiet g i n id))
    open_stays number (In.Yield v p) = answers_stay v (Result p)
    open_stays number In.Violation = violates-short

    next-stays : (e : Event) (bytes : List ℕ) → Stays h i (next h i e bytes)
    unfolding next attaches silent detaches hears
    next-stays (Attach f) bytes = inr (omega (arith, layout-bound (format_at h) [] tt))
    next-stays Detach bytes = rw o (inr (ends-short Closed [] quiet))
    next-stays (Message number) bytes = rw o (open_stays number (read (format_at h i) bytes))

ending : (h : Hub) (x : Step) (room : ℕ) → Sized h → Lawful h → OpenAt h x.slot
    → ¬ (OpenAt (next h x.slot x.event x.bytes).hub x.slot) → 2048 ≤ room → ¬ ((step h x room).outcome ≡ NoRoom)
ending h x room sized lawful o shut l e =
    let d = ((demand1 h x room sized).no_room.0 e).1 in
    elim (next-stays h sized lawful x.slot o x.event x.bytes) [ inl s ↦ shut s | inr s ↦ (omega arith) ]

-- ---- all of them
pub complete : (h : Hub) (x : Step) (room : ℕ) → Complete h x room
complete h x room =
    record {
      covered = covered h x room;
      told = told h x;
      lasting = λ s l. let k = step-lawful h x room s l in (k.1, k.0);
      ending = ending h x room;
      within = within h x room;
      roomier = roomier h x room;
      unknown = unknown h x room;
      lent = lent h x room;
    }
