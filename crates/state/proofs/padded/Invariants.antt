use mathlib.Core.Path.{◌≡◌}
use Rattle.uri.specs.Uri.{longest}
use Rattle.seq.proofs.Loops.{filled_to}
use Rattle.state.proofs.padded.Given as goal

abbrev pub invariant-loop-i : goal.invariant-loop-i
invariant-loop-i l = l.bytes ≡ filled_to longest 0 l.text l.i
