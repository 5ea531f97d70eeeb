use Prim.Native.Nat.{◌^◌, ◌<◌}
use mathlib.Core.Path.{◌≡◌}
use Rattle.msgpack.specs.Head.{number}
use Rattle.msgpack.proofs.number.Given as goal

abbrev pub invariant-loop-b : goal.invariant-loop-b
invariant-loop-b l = (l.n ≡ number l.s l.at l.b-index) × (l.n < 256 ^ l.b-index)
