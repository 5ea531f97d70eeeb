use mathlib.Core.List.{map}
use mathlib.Core.Path.{◌≡◌}
use Rattle.seq.proofs.Loops.{filled_to}
use Rattle.state.specs.Change.{canceled_of}
use Rattle.state.proofs.cancels_of.Given as goal

abbrev pub invariant-loop-i : goal.invariant-loop-i
invariant-loop-i l = l.all ≡ filled_to 32 (record { slot = 0; request = 0 }) (map (canceled_of l.slot) l.calls) l.i
