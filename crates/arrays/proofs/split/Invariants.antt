use Prim.Native.Nat.{◌-◌}
use Rattle.msgpack.specs.MsgPack.{value}
use Rattle.arrays.specs.Arrays.{spans}
use Rattle.arrays.proofs.Laws.{Walk}
use Rattle.arrays.proofs.split.Given as goal

abbrev pub invariant-loop : goal.invariant-loop
invariant-loop l = Walk l.s l.p (l.count - l.counter) l.r (spans (value 7 l.s) l.count l.initial.p)
