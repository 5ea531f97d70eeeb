use mathlib.Core.Path.{◌≡◌}
use lib.ListN.{drop}
use Rattle.seq.specs.Lists.{first, first_from}
use Rattle.image.specs.Image.{held, table_in}
use Rattle.model.specs.State.{unused}
use Rattle.rows.proofs.lowest_free.Given as goal

abbrev pub invariant-loop-i : goal.invariant-loop-i
invariant-loop-i l = first unused (table_in l.kind (held l.state)).rows ≡ first_from unused l.i (drop l.i (table_in l.kind (held l.state)).rows)
