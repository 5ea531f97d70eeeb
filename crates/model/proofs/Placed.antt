-- A routed call (`Routed`, specs/Run.antt) is said by the messages alone; so it stands in its place after its step: an INVOCATION is sent
-- only for a CALL in order on an open session, and there the book takes the place. Assumes nothing.
use Prim.Native.Nat.{ℕ, suc, ◌<◌}
use mathlib.Core.Path.{◌≡◌, refl, sym, ◌∙◌}
use mathlib.Core.Bool.{true, false}
use mathlib.Core.List.{List}
use native.Mathlib.Omega.{arith}
use borrow.Author.Tests.{lt-ltb, ne_eqb}
use lib.ListN.{length, get_or, take}
use lib.Seq.{get_or-set_same}
use Rattle.seq.specs.Bytes.{Payload}
use Rattle.seq.proofs.Logic.{split}
use Rattle.incoming.specs.Incoming as In
use Rattle.incoming.specs.Read.{read}
use Rattle.outgoing.specs.Layout.{Mail}
use Rattle.model.specs.declared.Hub.{Hub}
use Rattle.model.specs.declared.Event.TheVariants.{Message}
use Rattle.model.specs.State.{session, Phase, IsClosed, IsAttached, IsOpen, phase_at, format_at, empty_hub}
use Rattle.model.specs.Rules.{OpenAt}
use Rattle.model.specs.Step.{Step, Stepped, refusal, silent, says, ends, violates, follows, request, on_open, early, turns_away, on_attached, hears, next, refused, done}
use Rattle.model.specs.Book.{Book, Place, no_place, names, entrant, format_in, present, vacant, lowest, none, chosen, seen, invocation_in, with_entrant, with_place, nothing, asked, invoked, called, in_order, view, heard, on_done, tick, enter, empty_book}
use Rattle.model.specs.Run.{Given, fed, result, entry, hub_of, book_at, step_at, Routed, place_at}
use Rattle.model.proofs.Fit.{Fit}
use Rattle.model.proofs.Places.{asked-names}
use Rattle.model.proofs.Matches.{open-named}
use Rattle.model.proofs.BookEnds.{cancels-uninvoked}
use Rattle.model.proofs.BookAgrees.{follows-positive, same_number}
use Rattle.model.proofs.Sim.{run-matches}
use Rattle.model.proofs.Lawful.{lawful-rules}
use Rattle.model.proofs.Demand1.{Verdict, bad-state, bad-slot, wrong-time, bad-number, no-room, all_done, verdict, next_of}
use Rattle.model.proofs.Whole.{Agreed, empty-agrees, run-agrees, book-next}

-- ---- the step
none-chosen : {c v : ℕ} → none ≡ chosen c v → ⊥
none-chosen e = let z : ◌≡◌ {A = ℕ} 0 1 = cc in omega arith

-- a CALL that sends an INVOCATION is on an open session, and its number follows
module _ (h : Hub) (i lent n : ℕ) (procedure : List ℕ) (payload : Payload) where
  violates-uninvoked : invocation_in (violates h i).mails ≡ none
  unfolding violates ends invocation_in seen
  violates-uninvoked = cancels-uninvoked i h.calls

  call-only : (s : Phase) (c v : ℕ) → invocation_in (hears h i lent (In.Call n procedure payload) s).mails ≡ chosen c v
      → (s ≡ IsOpen) × (follows (session h i).request n ≡ true)
  unfolding hears on_attached early turns_away says silent invocation_in seen on_open request
  call-only IsClosed c v e = absurd (none-chosen e)
  call-only IsAttached c v e = absurd (none-chosen e)
  call-only IsOpen c v e =
      (refl, split (follows (session h i).request n) (λ t. t) (λ t. absurd (none-chosen (sym violates-uninvoked ∙ rw t at e))))

-- a message that leads to an INVOCATION is no closed slot's
not-shut : (h : Hub) (i lent : ℕ) (m : In.Incoming) (s : Phase) (c v : ℕ) → invocation_in (hears h i lent m s).mails ≡ chosen c v → ¬ (s ≡ IsClosed)
unfolding hears silent invocation_in
not-shut h i lent m IsClosed c v e = absurd (none-chosen e)
not-shut h i lent m IsAttached c v e = λ q. let z : ◌≡◌ {A = ℕ} 0 1 = cc in omega arith
not-shut h i lent m IsOpen c v e = λ q. let z : ◌≡◌ {A = ℕ} 0 1 = cc in omega arith

-- a step that sends an INVOCATION sends what its event leads to
sent : (h : Hub) (x : Step) (room c v : ℕ) {y : Stepped} → Verdict h x room y → invocation_in y.mails ≡ chosen c v
    → invocation_in (next_of h x room).mails ≡ chosen c v
unfolding refused done invocation_in
sent h x room c v (bad-state p) e = absurd (none-chosen e)
sent h x room c v (bad-slot p) e = absurd (none-chosen e)
sent h x room c v (wrong-time p) e = absurd (none-chosen e)
sent h x room c v (bad-number p) e = absurd (none-chosen e)
sent h x room c v (no-room p) e = absurd (none-chosen e)
sent h x room c v (all_done p) e = e

-- ---- the book: a CALL in order that sent an INVOCATION takes the lowest empty place
module _ (b : Book) (x : Step) (ms : List Mail) (lent n c v : ℕ) (procedure : List ℕ) (payload : Payload) where
  takes-place : x.event ≡ Message lent → read (format_in b x.slot) x.bytes ≡ In.Call n procedure payload → invocation_in ms ≡ chosen c v
      → 0 < names b.entrants x.slot → in_order (entrant b x.slot).request n ≡ true → lowest b.places < length b.places
      → get_or (enter b x 0 ms).book.places (lowest b.places) no_place
      ≡ record { caller = names b.entrants x.slot; request = n; callee = names b.entrants c; invocation = v }
  unfolding enter on_done present entrant format_in tick view heard called nothing with_place invoked with_entrant asked
  takes-place e r q pos o room =
      rw (e, r, q, lt-ltb 0 (names b.entrants x.slot) pos, o)
      (get_or-set_same b.places (lowest b.places) _ no_place room
      ∙ cc (asked-names (tick b) x.slot n x.slot, asked-names (tick b) x.slot n c))

-- ---- both, in a hub and a book that agree
module _ (h : Hub) (b : Book) (a : Agreed h b) (g : Given) (lent n c v : ℕ) (procedure : List ℕ) (payload : Payload)
    (event : g.input.event ≡ Message lent) (message : read (format_in b g.input.slot) g.input.bytes ≡ In.Call n procedure payload)
    (sends : invocation_in (fed h g).mails ≡ chosen c v) where
  in-order : OpenAt h g.input.slot × (follows (session h g.input.slot).request n ≡ true)
  unfolding fed result next
  in-order =
      let i = g.input.slot in
      let w : invocation_in (hears h i lent (read (format_at h i) g.input.bytes) (phase_at h i)).mails ≡ chosen c v =
      rw event at (sent h g.input g.room c v (verdict h g.input g.room a.sized) sends)
      in
      let f = a.matches.formats i (not-shut h i lent _ (phase_at h i) c v w) in
      let r : read (format_at h i) g.input.bytes ≡ In.Call n procedure payload = rw f at message in
      call-only h i lent n procedure payload (phase_at h i) c v (rw r at w)

  number-positive : 0 < n
  number-positive = follows-positive _ n in-order.1

  takes : (fed h g).refusal ≡ 0 → get_or (entry b (fed h g)).book.places (lowest b.places) no_place
      ≡ record { caller = names b.entrants g.input.slot; request = n; callee = names b.entrants c; invocation = v }
  unfolding entry fed
  takes done =
      let i = g.input.slot in
      let o = in-order in
      let f : Fit b (fed h g) = (run-matches h b a.lawful a.matches g (lawful-rules h a.lawful)).1 in
      rw done
      (takes-place b g.input (fed h g).mails lent n c v procedure payload event message sends
      (open-named h b a.matches i o.0)
      (sym (same_number h b a.matches a.lawful i o.0 n) ∙ o.1)
      (rw sends at f.roomy))

-- ---- over a run
module _ (gs : List Given) (i k : ℕ) (p : Place) (r : Routed gs i k p) where
  agreed : Agreed (hub_of (take i gs)) (book_at gs i)
  agreed = run-agrees (take i gs) empty_hub empty_book empty-agrees

  -- the call is not the empty place
  pub routed-used : vacant p ≡ false
  unfolding vacant
  routed-used =
      let l =
      number-positive (hub_of (take i gs)) (book_at gs i) agreed (step_at gs i) r.lent r.request r.receiver r.number r.procedure
      r.payload r.event r.message r.invocation
      in
      rw r.call (ne_eqb r.request 0 (λ z. omega arith))

  -- after step i it stands in its place
  pub routed-placed : p ≡ place_at gs (suc i) k
  routed-placed =
      rw (r.call, r.lowest_place, book-next empty_hub empty_book gs i r.within)
      (sym
      (takes (hub_of (take i gs)) (book_at gs i) agreed (step_at gs i) r.lent r.request r.receiver r.number r.procedure
      r.payload r.event r.message r.invocation r.done))
