use mathlib.Core.Path.{◌≡◌}
use Rattle.image.specs.Image.{number}
use Rattle.image.proofs.load_number.Given as goal

abbrev pub invariant-loop-i : goal.invariant-loop-i
invariant-loop-i l = l.x ≡ number l.i l.s
