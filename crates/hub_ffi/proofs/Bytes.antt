-- The claims of specs/Claims.antt: calls on lent bytes are steps of the model. Assumes nothing.
use Prim.Native.Nat.{ℕ, ◌+◌}
use mathlib.Core.List.{List, [], ◌∷◌}
use mathlib.Core.Path.{◌≡◌, refl, sym, ap, ◌∙◌}
use native.Mathlib.Omega.{arith}
use Rattle.seq.proofs.Logic.{split}
use Rattle.outgoing.specs.Layout.{Mail, Formats}
use Rattle.model.specs.declared.Hub.{Hub}
use Rattle.model.specs.declared.Outcome.{Outcome}
use Rattle.model.specs.declared.Outcome.TheVariants.{Done, BadState, BadSlot, WrongTime, BadNumber, NoRoom}
use Rattle.model.specs.State.{empty_hub}
use Rattle.model.specs.Rules.{Sized, Lawful}
use Rattle.model.specs.Step.{Step, step, refused, refusal}
use Rattle.model.specs.Run.{Given, result, hub_after}
use Rattle.model.proofs.Keeps.{step-lawful}
use Rattle.model.proofs.Demand1.{demand1}
use Rattle.model.proofs.Demand3.{demand3}
use Rattle.image.specs.Image.{load, store}
use Rattle.image.proofs.RoundTrip.{load_store, load_sized, empty-image}
use Rattle.hub.specs.Answer.{formats_on, output, lent, if_done, kept}
use Rattle.hub_ffi.specs.Claims.{bytes_after, Claims}
use Rattle.hub.proofs.Laws.{lent-unformed, lent-formed}

-- ---- a refused call
no-done : (o : Outcome) (n : ℕ) → refusal o ≡ n + 1 → o ≡ Done → ⊥
no-done o n e d = let z : n + 1 ≡ 0 = sym e ∙ ap refusal d in absurd (omega arith)

pub old-kept : (o : Outcome) (new old : List ℕ) → (o ≡ Done → ⊥) → if_done o new old ≡ old
old-kept Done new old n = absurd (n refl)
old-kept BadState new old n = refl
old-kept BadSlot new old n = refl
old-kept WrongTime new old n = refl
old-kept BadNumber new old n = refl
old-kept NoRoom new old n = refl

pub old-written : (fs : Formats) (o : Outcome) (count : ℕ) (ms : List Mail) (old : List ℕ) → (o ≡ Done → ⊥) → output fs o count ms old ≡ old
old-written fs Done count ms old n = absurd (n refl)
old-written fs BadState count ms old n = refl
old-written fs BadSlot count ms old n = refl
old-written fs WrongTime count ms old n = refl
old-written fs BadNumber count ms old n = refl
old-written fs NoRoom count ms old n = refl

-- it reports 0 bytes
none-counted : (s : List ℕ) (x : Step) (room : ℕ) → ((lent s x room).outcome ≡ Done → ⊥) → (lent s x room).count ≡ 0
unfolding refused
none-counted s x room =
    split (load s).ok
    (λ t. rw (lent-formed s x room t) (λ n. ((demand1 (load s).hub x room (load_sized s)).nothing n).2))
    (λ t. rw (lent-unformed s x room t) (λ n. refl))

-- ---- a call on the bytes of a hub that keeps the rules
module _ (h : Hub) (z : Sized h) (w : Lawful h) (x : Step) (room : ℕ) where
  pub as-step : lent (store h) x room ≡ step h x room
  unfolding lent
  as-step = rw (load_store h z w)

  -- refused or done, the bytes left are those of the state after
  after_is : (o : Outcome) (k : Hub) → ((o ≡ Done → ⊥) → k ≡ h) → if_done o (store k) (store h) ≡ store k
  after_is Done k f = refl
  after_is BadState k f = ap store (sym (f (no-done BadState 0 refl)))
  after_is BadSlot k f = ap store (sym (f (no-done BadSlot 1 refl)))
  after_is WrongTime k f = ap store (sym (f (no-done WrongTime 2 refl)))
  after_is BadNumber k f = ap store (sym (f (no-done BadNumber 3 refl)))
  after_is NoRoom k f = ap store (sym (f (no-done NoRoom 4 refl)))

  pub leaves : kept (lent (store h) x room) (store h) ≡ store (step h x room).hub
  leaves = rw as-step (after_is (step h x room).outcome (step h x room).hub (λ n. ((demand1 h x room z).nothing n).0))

-- ---- many calls
run-from : (gs : List Given) (h : Hub) → Sized h → Lawful h → bytes_after (store h) gs ≡ store (hub_after h gs)
unfolding bytes_after hub_after result
run-from [] h z w = refl
run-from (g ∷ gs) h z w =
    let k = step-lawful h g.input g.room z w in
    rw (leaves h z w g.input g.room) (run-from gs (step h g.input g.room).hub k.1 k.0)

pub claims : Claims
unfolding hub_after
claims =
    record {
      refused_call = λ s x room old n. (
        old-kept (lent s x room).outcome (store (lent s x room).hub) s n,
        old-written (formats_on s) (lent s x room).outcome (lent s x room).count (lent s x room).mails old n,
        none-counted s x room n,
      );
      as_step = as-step;
      leaves = leaves;
      as_run = λ gs. rw (← empty-image) (run-from gs empty_hub (demand3 []).sized (demand3 []).lawful);
    }
