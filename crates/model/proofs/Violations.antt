-- What demand 2 calls a violation is one to the step, on an open and on an attached slot. Assumes nothing.
use Prim.Native.Nat.{ℕ, suc}
use mathlib.Core.Path.{◌≡◌, refl}
use lib.Dec.{eqb}
use borrow.Author.Tests.{eqb-true, leb-true, lt-leb}
use Rattle.seq.proofs.Logic.{split, and_left, and_right}
use Rattle.incoming.specs.Incoming as In
use Rattle.incoming.specs.Incoming.{Incoming}
use Rattle.model.specs.declared.Hub.{Hub}
use Rattle.seq.specs.Numbers.{last_id}
use Rattle.model.specs.State.{session}
use Rattle.model.specs.Step.{Next, Wrong, violates, follows, request, on_open, early}
use Rattle.model.specs.Demands.{BadRequest, Violates, ViolatesEarly}

-- a request number that is not the session's last plus 1, or no ID
bad-request : (h : Hub) (i n : ℕ) (serve : Hub → Next) → BadRequest h i n → request h i n serve ≡ violates h i
unfolding request follows
bad-request h i n serve b =
    split (follows (session h i).request n)
    (λ t.
    let q = eqb n (suc (session h i).request) in
    absurd (b (eqb-true n (suc (session h i).request) (and_left q _ t), leb-true n last_id (and_right q _ t))))
    (λ t. rw t)

module _ (h : Hub) (i number : ℕ) where
  -- on an open slot
  pub violating : (m : Incoming) → Violates h i m → on_open h i number m ≡ violates h i
  unfolding on_open
  violating (In.Hello realm) b = refl
  violating In.Abort b = absurd b
  violating In.Goodbye b = absurd b
  violating (In.Error v uri payload) b = rw (lt-leb v (session h i).invocation b)
  violating (In.Publish n acknowledge audience topic payload) b = bad-request h i n _ b
  violating (In.Subscribe n policy topic) b = bad-request h i n _ b
  violating (In.Unsubscribe n id) b = bad-request h i n _ b
  violating (In.Call n procedure payload) b = bad-request h i n _ b
  violating (In.Register n policy procedure) b = bad-request h i n _ b
  violating (In.Unregister n id) b = bad-request h i n _ b
  violating (In.Yield v payload) b = rw (lt-leb v (session h i).invocation b)
  violating In.Violation b = refl

-- on an attached slot
pub wrong-early : (m : Incoming) → ViolatesEarly m → early m ≡ Wrong
unfolding early
wrong-early (In.Hello realm) b = absurd (b.0 realm refl)
wrong-early In.Abort b = absurd (b.1 refl)
wrong-early In.Goodbye b = refl
wrong-early (In.Error v uri payload) b = refl
wrong-early (In.Publish n acknowledge audience topic payload) b = refl
wrong-early (In.Subscribe n policy topic) b = refl
wrong-early (In.Unsubscribe n id) b = refl
wrong-early (In.Call n procedure payload) b = refl
wrong-early (In.Register n policy procedure) b = refl
wrong-early (In.Unregister n id) b = refl
wrong-early (In.Yield v payload) b = refl
wrong-early In.Violation b = refl
