use mathlib.Core.Path.{◌≡◌}
use lib.ListN.{drop}
use Rattle.seq.specs.Lists.{first, first_from}
use Rattle.model.specs.State.{idle}
use Rattle.state.proofs.free_call.Given as goal

abbrev pub invariant-loop-i : goal.invariant-loop-i
invariant-loop-i l = first (idle) l.calls ≡ first_from (idle) l.i (drop l.i l.calls)
