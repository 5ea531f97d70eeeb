use Prim.Native.Nat.{◌-◌}
use mathlib.Core.Path.{◌≡◌}
use lib.Dec.{eqb}
use lib.ListN.{length, drop}
use Rattle.seq.specs.Lists.{every}
use Rattle.edges.specs.Told.{unwritten}
use Rattle.edges.proofs.kept.Given as goal

abbrev pub invariant-loop-i : goal.invariant-loop-i
invariant-loop-i l = every (eqb unwritten) (drop l.from l.out) ≡ every (eqb unwritten) (drop l.i l.out)
