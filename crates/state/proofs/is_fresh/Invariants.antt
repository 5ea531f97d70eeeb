use mathlib.Core.Path.{◌≡◌}
use lib.ListN.{drop}
use Rattle.seq.specs.Lists.{every}
use Rattle.model.specs.Step.{is_fresh}
use Rattle.state.proofs.is_fresh.Given as goal

abbrev pub invariant-loop-s : goal.invariant-loop-s
invariant-loop-s l = every (is_fresh l.number) l.s-items ≡ every (is_fresh l.number) (drop l.s-index l.s-items)
