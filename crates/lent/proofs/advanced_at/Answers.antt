-- A slot beyond the last leaves the sessions as they are; else the slot's row becomes what `advance` ensures.
use Prim.Native.Nat.{ℕ, ◌≤◌}
use native.Mathlib.Omega.{arith}
use mathlib.Core.Path.{◌≡◌, ap}
use mathlib.Core.List.{List}
use lib.ListN.{length, get_or, set}
use lib.Seq.{set_out}
use Rattle.model.specs.declared.Session.{Session}
use Rattle.model.specs.State.{no_session}
use Rattle.lent.specs.declared.Counter.{Counter}
use Rattle.lent.specs.Counters.{advanced, advanced_at}
use Rattle.lent.proofs.advanced_at.Goals as goal

-- ---- a slot beyond the last, and a slot
module _ (xs : List Session) (n : ℕ) (c : Counter) where
  beyond : length xs ≡ 8 → 8 ≤ n → xs ≡ advanced_at xs n c
  unfolding advanced_at
  beyond l b = let k : length xs ≤ n = omega arith in rw (set_out xs n (advanced (get_or xs n no_session) c) k)

  row-stored : (r : Session) → r ≡ advanced (get_or xs n no_session) c → set xs n r ≡ advanced_at xs n c
  unfolding advanced_at
  row-stored r e = ap (λ (y : Session). set xs n y) e

pub returns-then-slot-ge8 : goal.returns-then-slot-ge8
returns-then-slot-ge8 c = beyond _ _ _ (omega arith) (omega arith)

pub returns : goal.returns
returns c = row-stored _ _ _ _ c.advance.ensures
