-- Demand 2's conditions decide the step's checks: in a lawful state, on a slot of the right status and under a lent number in range, a
-- step with room for its messages is done, and leads to what `next` says. Assumes that a lawful state passes the test of the rules.
use Prim.Native.Nat.{ℕ, suc, ◌≤◌, ◌<◌}
use mathlib.Core.Path.{◌≡◌, refl}
use mathlib.Core.Bool.{true, false, not, ◌&&◌}
use mathlib.Core.List.{List}
use lib.ListN.{get_or}
use lib.Dec.{eqb}
use borrow.Author.Tests.{le-leb, lt-leb, eq-eqb, eqb-true}
use Rattle.seq.specs.Lists.{every}
use Rattle.seq.proofs.Logic.{and_both, and-false, and_left, and_right, split}
use Rattle.seq.proofs.Rules.{all-every, all-of-at}
use Rattle.incoming.specs.Incoming.{Incoming}
use Rattle.outgoing.specs.Layout.{Mail}
use Rattle.model.specs.declared.Hub.{Hub}
use Rattle.seq.specs.declared.Format.{Format}
use Rattle.model.specs.declared.Event.TheVariants.{Attach, Detach, Message}
use Rattle.seq.specs.Numbers.{last_id}
use Rattle.model.specs.State.{slots, no_session, session, Phase, IsClosed, IsAttached, IsOpen, phase_at, is_open}
use Rattle.model.specs.Rules.{rules}
use Rattle.model.specs.Step.{Step, Next, step, next, hears, on_open, on_attached, early, detaches, attaches, request, follows, numbered, wrong_time, bad_number, accepts, is_fresh, fitted, done}
use Rattle.model.proofs.Lawful.{lawful-rules, open_is}
use Rattle.model.specs.Demands.{Taken, Leads, Heard, Asked, OnSlot}

abbrev pub leading : Hub → List Mail → Next
leading h ms = record { hub = h; mails = ms }

-- every check passes
module _ (h : Hub) (x : Step) {h' : Hub} {ms : List Mail} where
  decided : rules h ≡ true → x.slot < slots → wrong_time x.event (phase_at h x.slot) ≡ false
      → bad_number h x.slot x.event x.bytes ≡ false → next h x.slot x.event x.bytes ≡ leading h' ms → Leads h x ms h'
  unfolding step fitted done
  decided ok inside time number e room fits = rw (ok, lt-leb slots x.slot inside, time, number, e, le-leb _ room fits)

-- a request's number is the session's last plus 1, and an ID
pub follows-true : (last n : ℕ) → n ≡ suc last → n ≤ last_id → follows last n ≡ true
unfolding follows
follows-true last n e l = and_both (eq-eqb n (suc last) e) (le-leb n last_id l)

-- a number that no open session has
pub fresh-number : (h : Hub) (number : ℕ) → ¬ (Taken h number) → every (is_fresh number) h.sessions ≡ true
fresh-number h number none = all-every (is_fresh number) h.sessions (all-of-at (λ s. is_fresh number s ≡ true) no_session h.sessions fresh)
  where
    fresh : (j : ℕ) → is_fresh number (get_or h.sessions j no_session) ≡ true
    fresh j =
        unfold is_fresh session in
        let s = get_or h.sessions j no_session in
        split (is_open s && eqb s.id number)
        (λ t. absurd (none (j, open_is s.status (and_left (is_open s) _ t), eqb-true s.id number (and_right (is_open s) _ t))))
        (λ t. rw t)

module _ (h : Hub) (x : Step) (i number : ℕ) {h' : Hub} {ms : List Mail} where
  -- a message on a slot of any status but closed, which is no HELLO otherwise accepted under an open session's number
  heard-leads : {state : Phase} {m : Incoming} → Heard h x i number state m → wrong_time (Message number) state ≡ false
      → (accepts state (early m) && not (every (is_fresh number) h.sessions)) ≡ false → hears h i number m state ≡ leading h' ms → Leads h x ms h'
  unfolding bad_number next
  heard-leads {state} {m} a time fresh e =
      decided h x (lawful-rules h a.on.lawful) (rw a.on.slot a.on.inside) (rw (a.on.slot, a.on.event, a.on.status) time)
      (rw (a.on.slot, a.on.event, a.on.status, a.message, le-leb 1 number a.positive, le-leb number last_id a.limit) fresh)
      (rw (a.on.slot, a.on.event, a.on.status, a.message) e)

  -- a message on an open session
  pub open-leads : {m : Incoming} → Heard h x i number IsOpen m → on_open h i number m ≡ leading h' ms → Leads h x ms h'
  unfolding hears accepts wrong_time
  open-leads a e = heard-leads a refl refl e

  -- a message on an attached slot that is no HELLO otherwise accepted; a HELLO under a number that no open session has
  pub early-leads : {m : Incoming} → Heard h x i number IsAttached m → accepts IsAttached (early m) ≡ false
      → on_attached h i number (early m) ≡ leading h' ms → Leads h x ms h'
  unfolding hears wrong_time
  early-leads a t e = heard-leads a refl (rw t) e

  pub fresh-leads : {m : Incoming} → Heard h x i number IsAttached m → every (is_fresh number) h.sessions ≡ true
      → on_attached h i number (early m) ≡ leading h' ms → Leads h x ms h'
  unfolding hears wrong_time
  fresh-leads {m} a t e = heard-leads a refl (rw t (and-false (accepts IsAttached (early m)) false refl)) e

  -- a request whose number follows
  pub asked-leads : {m : Incoming} {n : ℕ} (serve : Hub → Next) → Asked h x i number n m → on_open h i number m ≡ request h i n serve
      → serve (numbered h i n) ≡ leading h' ms → Leads h x ms h'
  unfolding request
  asked-leads {m} {n} serve a e f = open-leads a.heard (rw (e, follows-true (session h i).request n a.next a.limit) f)

  -- attaching a closed slot; detaching one that is not
  pub attach-leads : (f : Format) → OnSlot h x i (Attach f) IsClosed → attaches h i f ≡ leading h' ms → Leads h x ms h'
  unfolding wrong_time bad_number next
  attach-leads f a e =
      decided h x (lawful-rules h a.lawful) (rw a.slot a.inside) (rw (a.slot, a.event, a.status)) (rw (a.slot, a.event))
      (rw (a.slot, a.event) e)

  pub detach-leads : {state : Phase} → OnSlot h x i Detach state → wrong_time Detach state ≡ false → detaches h i state ≡ leading h' ms
      → Leads h x ms h'
  unfolding bad_number next
  detach-leads a t e =
      decided h x (lawful-rules h a.lawful) (rw a.slot a.inside) (rw (a.slot, a.event, a.status) t) (rw (a.slot, a.event))
      (rw (a.slot, a.event, a.status) e)
