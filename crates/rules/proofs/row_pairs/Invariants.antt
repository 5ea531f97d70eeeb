use Prim.Native.Nat.{◌+◌}
use mathlib.Core.Path.{◌≡◌}
use Rattle.seq.specs.Lists.{pairwise}
use Rattle.seq.proofs.Loops.{pairs_at}
use Rattle.pattern.specs.Choice.{no_row}
use Rattle.model.specs.Rules.{rows_apart}
use Rattle.image.specs.Image.{held, table_in}
use Rattle.rules.proofs.row_pairs.Given as goal

abbrev pub invariant-loop-i : goal.invariant-loop-i
invariant-loop-i l =
    pairwise rows_apart (table_in l.kind (held l.state)).rows ≡ pairs_at rows_apart no_row (table_in l.kind (held l.state)).rows l.i (l.i + 1)

abbrev pub invariant-loop-j : goal.invariant-loop-j
invariant-loop-j l =
    pairwise rows_apart (table_in l.kind (held l.state)).rows ≡ pairs_at rows_apart no_row (table_in l.kind (held l.state)).rows l.i l.j
