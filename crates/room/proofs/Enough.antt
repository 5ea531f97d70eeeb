-- How much output a step can need (specs/Enough.antt): by what it sends (Sent.antt). Assumes nothing.
use Prim.Native.Nat.{ℕ, ◌≤◌, ◌<◌}
use mathlib.Core.Path.{◌≡◌, refl}
use mathlib.Core.List.{List}
use native.Mathlib.Omega.{arith}
use Rattle.incoming.specs.Incoming as In
use Rattle.incoming.specs.Read.{read}
use Rattle.model.specs.declared.Hub.{Hub}
use Rattle.model.specs.declared.Event.{Event}
use Rattle.model.specs.declared.Event.TheVariants.{Attach, Detach, Message}
use Rattle.model.specs.declared.Outcome.{Outcome}
use Rattle.model.specs.declared.Outcome.TheVariants.{Done, BadState, BadSlot, WrongTime, BadNumber, NoRoom}
use Rattle.model.specs.Words.{Incoming}
use Rattle.model.specs.State.{format_at}
use Rattle.model.specs.Rules.{Sized}
use Rattle.model.specs.Step.{Step, Stepped, refused, done, step, refusal}
use Rattle.model.specs.Demands.{Numbered, needed}
use Rattle.model.proofs.Demand1.{Verdict, bad-state, bad-slot, wrong-time, bad-number, no-room, all_done, verdict, demand1}
use Rattle.room.specs.Enough.{most_bytes, most_other, Publishes, Enough}
use Rattle.room.proofs.Sent.{bound, bound-low, limit, next-sends}

refusal-low : (o : Outcome) → refusal o ≤ 5
refusal-low Done = omega arith
refusal-low BadState = omega arith
refusal-low BadSlot = omega arith
refusal-low WrongTime = omega arith
refusal-low BadNumber = omega arith
refusal-low NoRoom = omega arith

module _ (h : Hub) (i : ℕ) (bytes : List ℕ) where
  limit-most : (e : Event) → limit h i e bytes ≤ most_bytes
  limit-most (Attach f) = omega arith
  limit-most Detach = omega arith
  limit-most (Message number) = (bound-low (read (format_at h i) bytes)).1

  limit-other : (e : Event) → ¬ (Publishes h i e bytes) → limit h i e bytes ≤ most_other
  limit-other (Attach f) n = omega arith
  limit-other Detach n = omega arith
  limit-other (Message number) f = go (read (format_at h i) bytes) refl
    where
      go : (m : Incoming) → read (format_at h i) bytes ≡ m → bound m ≤ most_other
      go (In.Hello realm) e = omega arith
      go In.Abort e = omega arith
      go In.Goodbye e = omega arith
      go (In.Error v uri p) e = omega arith
      go (In.Publish n acknowledge audience topic p) e = absurd (f (n, acknowledge, audience, topic, p, e))
      go (In.Subscribe n policy topic) e = omega arith
      go (In.Unsubscribe n id) e = omega arith
      go (In.Call n procedure p) e = omega arith
      go (In.Register n policy procedure) e = omega arith
      go (In.Unregister n id) e = omega arith
      go (In.Yield v p) e = omega arith
      go In.Violation e = omega arith

module _ (h : Hub) (x : Step) (room : ℕ) (sized : Sized h) where
  abbrev step_limit : ℕ
  step_limit = limit h x.slot x.event x.bytes

  needed-limit : Numbered h x room → needed h x room ≤ step_limit
  needed-limit (((lawful, inside), time), number) = (next-sends h sized lawful x.slot inside x.event x.bytes).output (format_at h)

  count-limit : {y : Stepped} → Verdict h x room y → y.count ≤ step_limit
  unfolding refused done
  count-limit (bad-state p) = omega arith
  count-limit (bad-slot p) = omega arith
  count-limit (wrong-time p) = omega arith
  count-limit (bad-number p) = omega arith
  count-limit (no-room p) = omega arith
  count-limit (all_done p) = needed-limit p.0

  room-limit : (step h x room).outcome ≡ NoRoom → room < step_limit
  room-limit e = let d = (demand1 h x room sized).no_room.0 e in let r = d.1 in omega (arith, needed-limit d.0)

  pub enough : Enough h x room
  enough =
      let counted = count-limit (verdict h x room sized) in
      let most = limit-most h x.slot x.bytes x.event in
      let other = limit-other h x.slot x.bytes x.event in
      record {
        needs = λ n. omega (arith, needed-limit n);
        needs_other = λ f n. omega (arith, needed-limit n, other f);
        fits = λ e. omega (arith, room-limit e);
        fits_other = λ f e. omega (arith, room-limit e, other f);
        count = omega arith;
        count_other = λ f. omega (arith, other f);
        answer = omega (arith, refusal-low (step h x room).outcome);
      }
