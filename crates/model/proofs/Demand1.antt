-- Demand 1 (specs/Demands.antt) holds of every hub of the code, step and room: each refusal is given exactly when its rule says, a refused
-- step changes nothing, and the count is that of the output's bytes. Each test of the step decides its rule (`Decides`); `verdict` says which
-- of the six ways a step went, with what holds there. Assumes nothing.
use Prim.Native.Nat.{ℕ, ◌≤◌, ◌<◌}
use mathlib.Core.Path.{◌≡◌, refl, ap, subst}
use mathlib.Core.Logic.{inl, inr, ⊎_elim}
use mathlib.Core.Bool.{Bool, true, false, not, ◌&&◌}
use mathlib.Core.List.{List, []}
use native.Mathlib.Omega.{arith}
use lib.ListN.{length}
use lib.Dec.{eqb, leb}
use borrow.Author.Tests.{leb-true, leb-false, le-leb, lt-leb, eqb-true, eq-eqb, not-true, not-false}
use Rattle.seq.specs.Lists.{every}
use Rattle.seq.proofs.Logic.{split, clash, and_left, and_right, and_both, or_right, or-false, both-not, Decides, passes, fails}
use Rattle.seq.proofs.Lists.{every-gap}
use Rattle.seq.proofs.Rules.{all-at, every-all}
use Rattle.seq.proofs.Bytes.{same-eq, same_refl}
use Rattle.incoming.specs.Incoming as In
use Rattle.incoming.specs.Incoming.{Incoming}
use Rattle.incoming.specs.Read.{read}
use Rattle.model.specs.declared.Hub.{Hub}
use Rattle.model.specs.declared.Event.{Event}
use Rattle.model.specs.declared.Event.TheVariants.{Attach, Detach, Message}
use Rattle.model.specs.declared.Outcome.{Outcome}
use Rattle.model.specs.declared.Outcome.TheVariants.{Done, BadState, BadSlot, WrongTime, BadNumber, NoRoom}
use Rattle.seq.specs.Numbers.{last_id}
use Rattle.model.specs.State.{slots, no_session, session, Phase, IsClosed, IsAttached, IsOpen, phase_at, format_at, is_open}
use Rattle.model.specs.Rules.{in_range, rules, Sized, Lawful}
use Rattle.model.specs.Step.{Step, Next, Stepped, step, next, refused, done, fitted, output_of, refusal, realm_name, early, wrong_time, is_fresh, accepts, bad_number}
use Rattle.model.specs.Demands.{OutOfTime, Taken, NumberRefused, InSlots, InTime, Numbered, needed, Demand1}
use Rattle.model.proofs.Lawful.{is-open, open_is, in-range, range-in, lawful-rules, rules-lawful}

-- ---- the tests decide their rules
rules-decide : (h : Hub) → Sized h → Decides (rules h) (Lawful h)
rules-decide h s = record { yes = rules-lawful h s; no = λ e l. clash (lawful-rules h l) e }

time-decides : (e : Event) (s : Phase) → Decides (wrong_time e s) (OutOfTime e s)
unfolding wrong_time
time-decides (Attach f) IsClosed = record { yes = λ e. clash e refl; no = λ e n. n refl }
time-decides (Attach f) IsAttached = record { yes = λ e c. clash e (ap (wrong_time (Attach f)) c); no = λ e. clash refl e }
time-decides (Attach f) IsOpen = record { yes = λ e c. clash e (ap (wrong_time (Attach f)) c); no = λ e. clash refl e }
time-decides Detach IsClosed = record { yes = λ e. refl; no = λ e. clash refl e }
time-decides Detach IsAttached = record { yes = λ e. clash e refl; no = λ e c. clash (ap (wrong_time Detach) c) e }
time-decides Detach IsOpen = record { yes = λ e. clash e refl; no = λ e c. clash (ap (wrong_time Detach) c) e }
time-decides (Message number) IsClosed = record { yes = λ e. refl; no = λ e. clash refl e }
time-decides (Message number) IsAttached = record { yes = λ e. clash e refl; no = λ e c. clash (ap (wrong_time (Message number)) c) e }
time-decides (Message number) IsOpen = record { yes = λ e. clash e refl; no = λ e c. clash (ap (wrong_time (Message number)) c) e }

-- a HELLO otherwise accepted: on an attached slot, for this realm
pub accepted : (s : Phase) (m : Incoming) → accepts s (early m) ≡ true → (s ≡ IsAttached) × (m ≡ In.Hello realm_name)
unfolding accepts early
accepted IsClosed m e = clash e refl
accepted IsOpen m e = clash e refl
accepted IsAttached (In.Hello realm) e = (refl, ap In.Hello (same-eq realm realm_name e))
accepted IsAttached In.Abort e = clash e refl
accepted IsAttached In.Goodbye e = clash e refl
accepted IsAttached (In.Error v uri payload) e = clash e refl
accepted IsAttached (In.Publish n acknowledge audience topic payload) e = clash e refl
accepted IsAttached (In.Subscribe n policy topic) e = clash e refl
accepted IsAttached (In.Unsubscribe n id) e = clash e refl
accepted IsAttached (In.Call n procedure payload) e = clash e refl
accepted IsAttached (In.Register n policy procedure) e = clash e refl
accepted IsAttached (In.Unregister n id) e = clash e refl
accepted IsAttached (In.Yield v payload) e = clash e refl
accepted IsAttached In.Violation e = clash e refl

accepts-hello : (s : Phase) (m : Incoming) → s ≡ IsAttached → m ≡ In.Hello realm_name → accepts s (early m) ≡ true
unfolding accepts early
accepts-hello s m a e = rw (a, e) (same_refl realm_name)

-- the number is an open session's
fresh-decides : (h : Hub) (number : ℕ) → Decides (not (every (is_fresh number) h.sessions)) (Taken h number)
unfolding is_fresh session
fresh-decides h number = record {
  yes = λ e.
      let g = every-gap (is_fresh number) h.sessions no_session (not-true _ e) in
      let b = not-false (is_open (session h g.0) && eqb (session h g.0).id number) g.2 in
      (g.0, open_is (session h g.0).status (and_left (is_open (session h g.0)) _ b), eqb-true _ number (and_right (is_open (session h g.0)) _ b));
  no = λ e t.
      both-not (is_open (session h t.0)) (eqb (session h t.0).id number)
      (all-at (λ s. is_fresh number s ≡ true) no_session h.sessions t.0 refl (every-all (is_fresh number) h.sessions (not-false _ e)))
      (is-open (session h t.0).status t.1) (eq-eqb _ number t.2);
}

range-decides : (number : ℕ) → Decides (in_range number last_id) ((1 ≤ number) × (number ≤ last_id))
range-decides number = record { yes = range-in number last_id; no = λ e r. clash (in-range number last_id r.0 r.1) e }

-- a lent number out of range; or a HELLO otherwise accepted under a number that is taken
message-decides : (h : Hub) (i number : ℕ) (bytes : List ℕ)
    → Decides (bad_number h i (Message number) bytes) (NumberRefused h i (Message number) bytes)
unfolding bad_number
message-decides h i number bytes = record {
  yes = λ e.
      split (in_range number last_id)
      (λ t.
      let r = or_right (not (in_range number last_id)) _ e (rw t) in
      let a = accepted (phase_at h i) (read (format_at h i) bytes) (and_left (accepts (phase_at h i) (early (read (format_at h i) bytes))) _ r) in
      inr (a.0, a.1, (fresh-decides h number).yes (and_right (accepts (phase_at h i) (early (read (format_at h i) bytes))) _ r)))
      (λ t. inl ((range-decides number).no t));
  no = λ e.
      let p = or-false (not (in_range number last_id)) _ e in
      ⊎_elim
      (λ n. n ((range-decides number).yes (not-false _ p.0)))
      (λ r. clash (and_both (accepts-hello (phase_at h i) (read (format_at h i) bytes) r.0 r.1) (passes (fresh-decides h number) r.2)) p.1);
}

number-decides : (h : Hub) (i : ℕ) (e : Event) (bytes : List ℕ) → Decides (bad_number h i e bytes) (NumberRefused h i e bytes)
unfolding bad_number
number-decides h i (Attach f) bytes = record { yes = λ e. clash e refl; no = λ e n. n }
number-decides h i Detach bytes = record { yes = λ e. clash e refl; no = λ e n. n }
number-decides h i (Message number) bytes = message-decides h i number bytes

-- ---- the step by its tests
module _ (h : Hub) (x : Step) (room : ℕ) where
  -- what the step leads to where no rule refuses it
  abbrev pub next_of : Next
  next_of = next h x.slot x.event x.bytes

  -- the tests after `rules h`, in their order
  abbrev slot_test : Bool
  slot_test = leb slots x.slot

  abbrev time_test : Bool
  time_test = wrong_time x.event (phase_at h x.slot)

  abbrev number_test : Bool
  number_test = bad_number h x.slot x.event x.bytes

  abbrev room_test : Bool
  room_test = leb (needed h x room) room

  -- the step's equation for each way through the tests
  step-bad-state : rules h ≡ false → step h x room ≡ refused h BadState
  unfolding step
  step-bad-state a = rw a

  step-bad-slot : rules h ≡ true → slot_test ≡ true → step h x room ≡ refused h BadSlot
  unfolding step
  step-bad-slot a b = rw (a, b)

  step-wrong-time : rules h ≡ true → slot_test ≡ false → time_test ≡ true → step h x room ≡ refused h WrongTime
  unfolding step
  step-wrong-time a b c = rw (a, b, c)

  step-bad-number : rules h ≡ true → slot_test ≡ false → time_test ≡ false → number_test ≡ true → step h x room ≡ refused h BadNumber
  unfolding step
  step-bad-number a b c d = rw (a, b, c, d)

  step-no-room : rules h ≡ true → slot_test ≡ false → time_test ≡ false → number_test ≡ false → room_test ≡ false
      → step h x room ≡ refused h NoRoom
  unfolding step fitted
  step-no-room a b c d e = rw (a, b, c, d, e)

  step-done : rules h ≡ true → slot_test ≡ false → time_test ≡ false → number_test ≡ false → room_test ≡ true
      → step h x room ≡ done h next_of
  unfolding step fitted
  step-done a b c d e = rw (a, b, c, d, e)

  -- what holds of a step, by its outcome: demand 1's conditions
  abbrev pub Ruled : Outcome → Type 0
  Ruled BadState = ¬ (Lawful h)
  Ruled BadSlot = Lawful h × (slots ≤ x.slot)
  Ruled WrongTime = InSlots h x room × OutOfTime x.event (phase_at h x.slot)
  Ruled BadNumber = InTime h x room × NumberRefused h x.slot x.event x.bytes
  Ruled NoRoom = Numbered h x room × (room < needed h x room)
  Ruled Done = Numbered h x room × (needed h x room ≤ room)

  -- which way a step went, with what holds there
  pub data Verdict : Stepped → Type 0 where
    bad-state : Ruled BadState → Verdict (refused h BadState)
    bad-slot : Ruled BadSlot → Verdict (refused h BadSlot)
    wrong-time : Ruled WrongTime → Verdict (refused h WrongTime)
    bad-number : Ruled BadNumber → Verdict (refused h BadNumber)
    no-room : Ruled NoRoom → Verdict (refused h NoRoom)
    all_done : Ruled Done → Verdict (done h next_of)

  -- ---- what each verdict says
  ruled : {y : Stepped} → Verdict y → Ruled y.outcome
  unfolding refused done
  ruled (bad-state p) = p
  ruled (bad-slot p) = p
  ruled (wrong-time p) = p
  ruled (bad-number p) = p
  ruled (no-room p) = p
  ruled (all_done p) = p

  -- a refused step keeps the state, sends nothing and reports 0 bytes
  unchanged : {y : Stepped} → Verdict y → ¬ (y.outcome ≡ Done) → (y.hub ≡ h) × (y.mails ≡ []) × (y.count ≡ 0)
  unfolding refused done
  unchanged (bad-state p) n = (refl, refl, refl)
  unchanged (bad-slot p) n = (refl, refl, refl)
  unchanged (wrong-time p) n = (refl, refl, refl)
  unchanged (bad-number p) n = (refl, refl, refl)
  unchanged (no-room p) n = (refl, refl, refl)
  unchanged (all_done p) n = absurd (n refl)

  -- a done step counts the bytes of its output
  count-is : {y : Stepped} → Verdict y → y.outcome ≡ Done → y.count ≡ length (output_of h y.mails)
  unfolding refused done
  count-is (bad-state p) e = absurd (let z = ap refusal e in omega arith)
  count-is (bad-slot p) e = absurd (let z = ap refusal e in omega arith)
  count-is (wrong-time p) e = absurd (let z = ap refusal e in omega arith)
  count-is (bad-number p) e = absurd (let z = ap refusal e in omega arith)
  count-is (no-room p) e = absurd (let z = ap refusal e in omega arith)
  count-is (all_done p) e = refl

  -- ---- the tests, where the conditions hold
  time-is : Decides time_test (OutOfTime x.event (phase_at h x.slot))
  time-is = time-decides x.event (phase_at h x.slot)

  number_is : Decides number_test (NumberRefused h x.slot x.event x.bytes)
  number_is = number-decides h x.slot x.event x.bytes

  kept : InSlots h x room → rules h ≡ true
  kept p = lawful-rules h p.0

  inside : InSlots h x room → slot_test ≡ false
  inside p = lt-leb slots x.slot p.1

  -- a step that no rule refuses
  pub step-goes : Numbered h x room → needed h x room ≤ room → step h x room ≡ done h next_of
  step-goes ((i, t), n) l = step-done (kept i) (inside i) (fails time-is t) (fails number_is n) (le-leb _ room l)

  outcome-of : {y : Stepped} → step h x room ≡ y → (step h x room).outcome ≡ y.outcome
  outcome-of e = ap (λ z. z.outcome) e

  -- ---- every step has its verdict
  module _ (s : Sized h) where
    verdict-room : rules h ≡ true → slot_test ≡ false → time_test ≡ false → number_test ≡ false → Numbered h x room → Verdict (step h x room)
    verdict-room a b c d n =
        split room_test
        (λ e. rw (step-done a b c d e) (all_done (n, leb-true _ room e)))
        (λ e. rw (step-no-room a b c d e) (no-room (n, leb-false _ room e)))

    verdict-time : rules h ≡ true → slot_test ≡ false → InSlots h x room → Verdict (step h x room)
    verdict-time a b i =
        split time_test
        (λ c. rw (step-wrong-time a b c) (wrong-time (i, time-is.yes c)))
        (λ c. split number_test
        (λ d. rw (step-bad-number a b c d) (bad-number ((i, time-is.no c), number_is.yes d)))
        (λ d. verdict-room a b c d ((i, time-is.no c), number_is.no d)))

    pub verdict : Verdict (step h x room)
    verdict =
        split (rules h)
        (λ a.
        let l = rules-lawful h s a in
        split slot_test
        (λ b. rw (step-bad-slot a b) (bad-slot (l, leb-true slots x.slot b)))
        (λ b. verdict-time a b (l, leb-false slots x.slot b)))
        (λ a. rw (step-bad-state a) (bad-state (λ l. clash (lawful-rules h l) a)))

    -- an outcome's condition holds where it is the step's outcome
    told : (o : Outcome) → (step h x room).outcome ≡ o → Ruled o
    told o e = subst Ruled e (ruled verdict)

    pub demand1 : Demand1 h x room
    unfolding refused done
    demand1 = record {
      bad_state = (told BadState, λ n. outcome-of (step-bad-state (fails (rules-decide h s) n)));
      bad_slot = (told BadSlot, λ (l, b). outcome-of (step-bad-slot (lawful-rules h l) (le-leb slots x.slot b)));
      wrong_time = (told WrongTime, λ (i, t). outcome-of (step-wrong-time (kept i) (inside i) (passes time-is t)));
      bad_number = (told BadNumber, λ ((i, t), n). outcome-of (step-bad-number (kept i) (inside i) (fails time-is t) (passes number_is n)));
      no_room = (
        told NoRoom,
        λ (((i, t), n), l). outcome-of (step-no-room (kept i) (inside i) (fails time-is t) (fails number_is n) (lt-leb _ room l)),
      );
      done = (told Done, λ (n, l). outcome-of (step-goes n l));
      nothing = unchanged verdict;
      counted = count-is verdict;
    }
