use mathlib.Core.Path.{◌≡◌}
use Prim.Native.Nat.{◌≤◌}
use lib.ListN.{drop}
use Rattle.script.specs.Numbers.{max_number, value_from, fitting}
use Rattle.script.proofs.value.Given as goal

abbrev pub invariant-loop-b : goal.invariant-loop-b
invariant-loop-b l = (fitting (value_from l.v (drop l.b-index l.digits)) ≡ fitting (value_from 0 l.digits)) × (l.v ≤ max_number)
