use mathlib.Core.Path.{◌≡◌}
use lib.ListN.{drop}
use Rattle.seq.specs.Lists.{every}
use Rattle.image.specs.Image.{held, table_in}
use Rattle.rules.specs.ByTable.{row_lawful}
use Rattle.rules.proofs.each_row.Given as goal

abbrev pub invariant-loop-i : goal.invariant-loop-i
invariant-loop-i l =
    every (row_lawful l.sessions l.counter l.kind) (table_in l.kind (held l.state)).rows
    ≡ every (row_lawful l.sessions l.counter l.kind) (drop l.i (table_in l.kind (held l.state)).rows)
