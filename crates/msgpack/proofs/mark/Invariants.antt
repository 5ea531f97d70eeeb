use mathlib.Core.Path.{◌≡◌}
use Prim.Native.Nat.{◌<◌}
use lib.ListN.{drop}
use Rattle.strings.specs.Places.{mark_from, mark_of}
use Rattle.msgpack.proofs.mark.Given as goal

abbrev pub invariant-loop-b : goal.invariant-loop-b
invariant-loop-b l = (mark_of l.t ≡ mark_from l.m (drop l.b-index l.t)) × (l.m < 65536)
