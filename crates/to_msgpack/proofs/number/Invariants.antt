use Rattle.elements.specs.Kinds.{decimal as natural}
use mathlib.Core.Path.{◌≡◌}
use Prim.Native.Nat.{◌<◌}
use lib.ListN.{drop}
use Rattle.to_msgpack.proofs.number.Given as goal

abbrev pub invariant-loop-b : goal.invariant-loop-b
invariant-loop-b l = (natural l.n (drop l.b-index l.t) ≡ natural 0 l.t) × (l.n < 0x10000000000000000)
