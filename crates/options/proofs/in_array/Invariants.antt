use Prim.Native.Nat.{◌-◌}
use Rattle.seq.specs.declared.Format.TheVariants.{MsgPack}
use Rattle.msgpack.specs.MsgPack.{value}
use Rattle.arrays.specs.Arrays.{spans, ended}
use Rattle.options.specs.Audience.{ids_in}
use Rattle.options.proofs.Laws.{Steps}
use Rattle.options.proofs.in_array.Given as goal

abbrev pub invariant-loop : goal.invariant-loop
invariant-loop l = Steps l.v l.p (l.count - l.counter) l.r (ids_in MsgPack l.v (ended l.v (spans (value 7 l.v) l.count l.initial.p)))
