use mathlib.Core.Path.{◌≡◌}
use lib.ListN.{drop}
use Rattle.seq.specs.Lists.{first, first_from}
use Rattle.image.specs.Image.{held, table_in}
use Rattle.model.specs.State.{is_held_by}
use Rattle.rows.proofs.row_held.Given as goal

abbrev pub invariant-loop-i : goal.invariant-loop-i
invariant-loop-i l = first (is_held_by l.slot l.number) (table_in l.kind (held l.state)).rows ≡ first_from (is_held_by l.slot l.number) l.i (drop l.i (table_in l.kind (held l.state)).rows)
