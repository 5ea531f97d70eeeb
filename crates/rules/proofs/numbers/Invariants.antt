use mathlib.Core.List.{map}
use mathlib.Core.Path.{◌≡◌}
use Rattle.seq.proofs.Loops.{filled_to}
use Rattle.image.specs.Image.{held, table_in}
use Rattle.rules.specs.Mark.{row_number}
use Rattle.rules.proofs.numbers.Given as goal

abbrev pub invariant-loop-i : goal.invariant-loop-i
invariant-loop-i l = l.all ≡ filled_to 32 0 (map row_number (table_in l.kind (held l.state)).rows) l.i
