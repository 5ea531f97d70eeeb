use Prim.Native.Nat.{◌≤◌, ◌+◌}
use mathlib.Core.Path.{◌≡◌}
use lib.ListN.{drop}
use Rattle.seq.specs.Lists.{tally}
use Rattle.model.specs.State.{is_holder}
use Rattle.state.proofs.count.Given as goal

abbrev pub invariant-loop-holds : goal.invariant-loop-holds
invariant-loop-holds l = (l.n ≤ l.holds-index) × (tally is_holder l.holds-items ≡ l.n + tally is_holder (drop l.holds-index l.holds-items))
