use mathlib.Core.Bool.{false}
use mathlib.Core.List.{map}
use mathlib.Core.Path.{◌≡◌}
use Rattle.seq.proofs.Loops.{filled_to}
use Rattle.state.specs.Change.{is_packed}
use Rattle.state.proofs.packed.Given as goal

abbrev pub invariant-loop-i : goal.invariant-loop-i
invariant-loop-i l = l.all ≡ filled_to 8 false (map is_packed l.sessions) l.i
