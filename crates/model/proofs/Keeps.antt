-- Every step keeps the state rules: `next-lawful` for what an event leads to when it is not refused, `step-lawful` for the whole step.
-- Assumes nothing.
use Prim.Native.Nat.{ℕ, suc, ◌≤◌, ◌<◌}
use mathlib.Core.Bool.{true, false, not, ◌&&◌}
use mathlib.Core.List.{List}
use mathlib.Core.Path.{◌≡◌, refl}
use native.Mathlib.Omega.{arith}
use borrow.Author.Tests.{eqb-true, eq-eqb, leb-true, leb-false, not-false}
use lib.Dec.{eqb, leb}
use lib.ListN.{length}
use Rattle.seq.specs.Lists.{every}
use Rattle.seq.specs.Bytes.{same}
use Rattle.seq.proofs.Logic.{clash, and_left, and_right, or-false, cond-case}
use Rattle.seq.proofs.Rules.{every-all, all-at}
use Rattle.incoming.specs.Incoming as In
use Rattle.incoming.specs.Incoming.{Incoming}
use Rattle.incoming.specs.Read.{read}
use Rattle.outgoing.specs.Outgoing.{Result, Failure}
use Rattle.model.specs.declared.Status.TheVariants.{Closed}
use Rattle.model.specs.declared.Hub.{Hub}
use Rattle.model.specs.declared.Event.{Event}
use Rattle.model.specs.declared.Event.TheVariants.{Attach, Detach, Message}
use Rattle.seq.specs.Numbers.{last_id}
use Rattle.model.specs.State.{slots, no_session, session, Phase, IsClosed, IsAttached, IsOpen, phase_at, format_at, attached_in, open_in}
use Rattle.seq.specs.declared.Format.{Format}
use Rattle.model.proofs.Formats.{phase-open, closed-open, attached-open}
use Rattle.model.specs.Rules.{OpenAt, in_range, rules, Sized, Lawful}
use Rattle.model.specs.Step.{Next, Step, output_of, Early, Greets, Leaves, Wrong, realm_name, silent, says, violates, follows, numbered, request, on_open, welcomes, turns_away, early, on_attached, attaches, detaches, hears, next, wrong_time, is_fresh, accepts, bad_number, Stepped, refused, done, fitted, step}
use Rattle.model.proofs.Parts.{Sound, sound-of, of-sound, open-inside}
use Rattle.model.proofs.Sessions.{Idle, idle-closed, idle-attached, idled, opened, numbered-sound, numbered-open, numbered-request}
use Rattle.model.proofs.Calls.{Ahead, next-ahead}
use Rattle.model.proofs.Served.{Keeps, ends-keeps, violates-keeps, subscribe-keeps, register-keeps, unsubscribe-keeps, unregister-keeps, publish-keeps, answer_keeps, call-keeps}

-- ---- a message on an open slot
-- a request that follows the session's last is served with its number as the last; any other is a violation
request-keeps : (h : Hub) → Sound h → (i : ℕ) → OpenAt h i → (n : ℕ) (serve : Hub → Next)
    → ((g : Hub) → Sound g → OpenAt g i → (session g i).request ≡ n → 1 ≤ n → Ahead g i n → Keeps (serve g)) → Keeps (request h i n serve)
unfolding request follows
request-keeps h l i o n serve f =
    cond-case Keeps (eqb n (suc (session h i).request) && leb n last_id) (serve (numbered h i n)) (violates h i)
    (λ e.
    let p : n ≡ suc (session h i).request = eqb-true n _ (and_left (eqb n (suc (session h i).request)) _ e) in
    let q : n ≤ last_id = leb-true n last_id (and_right (eqb n (suc (session h i).request)) _ e) in
    f (numbered h i n) (numbered-sound h l i b o n (omega arith) q) (numbered-open h l i b o n) (numbered-request h l i b o n) (omega arith)
    (next-ahead h l i n p))
    (λ _. violates-keeps h l i b)
  where
    b : i < slots
    b = open-inside h l i o

on-open : (h : Hub) → Sound h → (i : ℕ) → OpenAt h i → (number : ℕ) (m : Incoming) → Keeps (on_open h i number m)
unfolding on_open
on-open h l i o number (In.Hello realm) = violates-keeps h l i (open-inside h l i o)
on-open h l i o number In.Abort = ends-keeps h l i (open-inside h l i o) Closed idle-closed _
on-open h l i o number In.Goodbye = ends-keeps h l i (open-inside h l i o) (attached_in (format_at h i)) (idle-attached (format_at h i)) _
on-open h l i o number (In.Error v uri payload) =
    cond-case Keeps (leb v (session h i).invocation) _ _
    (λ _. answer_keeps h l i o v (Failure uri payload))
    (λ _. violates-keeps h l i (open-inside h l i o))
on-open h l i o number (In.Publish n acknowledge audience topic payload) =
    request-keeps h l i o n _ (λ g k p _ _ _. publish-keeps g k i p n acknowledge audience topic payload number)
on-open h l i o number (In.Subscribe n policy topic) = request-keeps h l i o n _ (λ g k p _ _ _. subscribe-keeps g k i p n policy topic)
on-open h l i o number (In.Unsubscribe n id) = request-keeps h l i o n _ (λ g k p _ _ _. unsubscribe-keeps g k i p n id)
on-open h l i o number (In.Call n procedure payload) = request-keeps h l i o n _ (λ g k p a b c. call-keeps g k i p n a b c procedure payload)
on-open h l i o number (In.Register n policy procedure) = request-keeps h l i o n _ (λ g k p _ _ _. register-keeps g k i p n policy procedure)
on-open h l i o number (In.Unregister n id) = request-keeps h l i o n _ (λ g k p _ _ _. unregister-keeps g k i p n id)
on-open h l i o number (In.Yield v payload) =
    cond-case Keeps (leb v (session h i).invocation) _ _
    (λ _. answer_keeps h l i o v (Result payload))
    (λ _. violates-keeps h l i (open-inside h l i o))
on-open h l i o number In.Violation = violates-keeps h l i (open-inside h l i o)

-- ---- a message on an attached slot
-- a number that every open session's ID differs from
fresh_at : (h : Hub) (number : ℕ) → every (is_fresh number) h.sessions ≡ true → (j : ℕ) → OpenAt h j → (session h j).id ≡ number → ⊥
unfolding session is_fresh
fresh_at h number e j o q =
    clash (all-at (λ s. is_fresh number s ≡ true) no_session h.sessions j refl (every-all (is_fresh number) h.sessions e))
    (rw (o, eq-eqb (session h j).id number q))

module _ (h : Hub) (l : Sound h) (i : ℕ) (inside : i < slots) where
  on-attached : (number : ℕ) → in_range number last_id ≡ true → Idle (session h i).status → (e : Early)
      → (accepts IsAttached e && not (every (is_fresh number) h.sessions)) ≡ false → Keeps (on_attached h i number e)
  unfolding on_attached welcomes turns_away says silent accepts
  on-attached number r q (Greets realm) a =
      cond-case Keeps (same realm realm_name) _ _
      (λ e.
      opened h l i inside q (open_in (format_at h i)) (phase-open (format_at h i)) number (leb-true 1 number (and_left (leb 1 number) _ r)) (leb-true number last_id (and_right (leb 1 number) _ r))
      (fresh_at h number (not-false _ (rw e at a))))
      (λ _. idled h l i inside q Closed idle-closed)
  on-attached number r q Leaves a = idled h l i inside q Closed idle-closed
  on-attached number r q Wrong a = idled h l i inside q Closed idle-closed

  -- ---- what an event leads to, by the slot's status
  on-detach : (k : Phase) → phase_at h i ≡ k → Keeps (detaches h i k)
  unfolding detaches silent
  on-detach IsOpen e = ends-keeps h l i inside Closed idle-closed _
  on-detach IsAttached e = idled h l i inside (rw e attached-open) Closed idle-closed
  on-detach IsClosed e = l

  on-message : (number : ℕ) → in_range number last_id ≡ true → (m : Incoming) (k : Phase) → phase_at h i ≡ k
      → (accepts k (early m) && not (every (is_fresh number) h.sessions)) ≡ false → Keeps (hears h i number m k)
  unfolding hears silent
  on-message number r m IsOpen e a = on-open h l i e number m
  on-message number r m IsAttached e a = on-attached number r (rw e attached-open) (early m) a
  on-message number r m IsClosed e a = l

  -- only a closed slot is attached
  closed-idle : (f : Format) (k : Phase) → wrong_time (Attach f) k ≡ false → k ≡ IsOpen → ⊥
  unfolding wrong_time
  closed-idle f IsClosed e = closed-open
  closed-idle f IsAttached e = attached-open
  closed-idle f IsOpen e = clash refl e

  next-sound : (e : Event) (bytes : List ℕ) → wrong_time e (phase_at h i) ≡ false → bad_number h i e bytes ≡ false → Keeps (next h i e bytes)
  unfolding next bad_number attaches silent
  next-sound (Attach f) bytes t n = idled h l i inside (closed-idle f (phase_at h i) t) (attached_in f) (idle-attached f)
  next-sound Detach bytes t n = on-detach (phase_at h i) refl
  next-sound (Message number) bytes t n =
      let f = or-false (not (in_range number last_id)) _ n in
      on-message number (not-false (in_range number last_id) f.0) (read (format_at h i) bytes) (phase_at h i) refl f.1

-- what an event that is not refused leads to keeps the state rules
pub next-lawful : (h : Hub) (i : ℕ) (e : Event) (bytes : List ℕ) → Sized h → Lawful h → i < slots → wrong_time e (phase_at h i) ≡ false
    → bad_number h i e bytes ≡ false → Lawful (next h i e bytes).hub × Sized (next h i e bytes).hub
next-lawful h i e bytes s l b t n = of-sound (next h i e bytes).hub (next-sound h (sound-of h l s) i b e bytes t n)

-- ---- the step: a refused one leaves the state as it was
step-sound : (h : Hub) (x : Step) (room : ℕ) → Sound h → Sound (step h x room).hub
unfolding step fitted refused done
step-sound h x room l =
    cond-case After (not (rules h)) _ _ (λ _. l) λ _.
    cond-case After (leb slots x.slot) _ _ (λ _. l) λ b.
    cond-case After (wrong_time x.event (phase_at h x.slot)) _ _ (λ _. l) λ t.
    cond-case After (bad_number h x.slot x.event x.bytes) _ _ (λ _. l) λ n.
    cond-case After (leb (length (output_of h (next h x.slot x.event x.bytes).mails)) room) _ _
    (λ _. next-sound h l x.slot (leb-false slots x.slot b) x.event x.bytes t n)
    (λ _. l)
  where
    After : Stepped → Type 0
    After s = Sound s.hub

pub step-lawful : (h : Hub) (x : Step) (room : ℕ) → Sized h → Lawful h → Lawful (step h x room).hub × Sized (step h x room).hub
step-lawful h x room s l = of-sound (step h x room).hub (step-sound h x room (sound-of h l s))
