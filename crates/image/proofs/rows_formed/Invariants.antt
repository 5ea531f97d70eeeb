use mathlib.Core.Bool.{true}
use mathlib.Core.Path.{◌≡◌}
use Rattle.seq.specs.Lists.{every}
use Rattle.image.specs.Image.{cut, row_formed}
use Rattle.image.proofs.rows_formed.Given as goal

abbrev pub invariant-loop-i : goal.invariant-loop-i
invariant-loop-i l = every (row_formed l.kind) (cut 139 l.i l.s) ≡ true
