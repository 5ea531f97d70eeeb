use Prim.Native.Nat.{◌-◌, ◌≤◌}
use mathlib.Core.Path.{◌≡◌}
use lib.ListN.{drop}
use Rattle.seq.specs.Lists.{every}
use Rattle.settings.specs.Lent.{used_rows, row_formed}
use Rattle.settings.proofs.rows_formed.Given as goal

abbrev pub invariant-loop-k : goal.invariant-loop-k
invariant-loop-k l = every row_formed (used_rows l.settings) ≡ every row_formed (drop l.k (used_rows l.settings))
