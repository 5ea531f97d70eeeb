use mathlib.Core.Bool.{false}
use mathlib.Core.Path.{◌≡◌}
use Rattle.seq.proofs.Loops.{filled_to}
use Rattle.state.specs.Change.{both}
use Rattle.state.proofs.receivers.Given as goal

abbrev pub invariant-loop-i : goal.invariant-loop-i
invariant-loop-i l = l.all ≡ filled_to 8 false (both l.holders l.to) l.i
