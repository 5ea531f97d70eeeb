use Prim.Native.Nat.{◌-◌, ◌<◌}
use mathlib.Core.Path.{◌≡◌}
use lib.ListN.{length, drop}
use Rattle.edges.specs.Told.{adler_from}
use Rattle.edges.proofs.adler32.Given as goal

abbrev pub invariant-loop-x : goal.invariant-loop-x
invariant-loop-x l = (adler_from 1 0 l.s ≡ adler_from l.a l.b (drop l.x-index l.s)) × (l.a < 65521) × (l.b < 65521)
