use Prim.Native.Nat.{◌+◌, ◌-◌, ◌≤◌}
use mathlib.Core.Path.{◌≡◌}
use lib.ListN.{length}
use Rattle.settings.specs.Settings.{most_rules}
use Rattle.settings.specs.Lent.{used_rows}
use Rattle.settings.proofs.Laws.{used_from}
use Rattle.settings.proofs.used.Given as goal

abbrev pub invariant-loop-k : goal.invariant-loop-k
invariant-loop-k l = length (used_rows l.settings) ≡ l.k + length (used_from l.settings l.k)
