use mathlib.Core.Path.{◌≡◌}
use lib.ListN.{drop}
use Rattle.seq.specs.Lists.{first, first_from}
use Rattle.model.specs.State.{is_holder}
use Rattle.state.proofs.owner.Given as goal

abbrev pub invariant-loop-i : goal.invariant-loop-i
invariant-loop-i l = first is_holder l.holders ≡ first_from is_holder l.i (drop l.i l.holders)
