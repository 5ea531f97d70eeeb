use Prim.Native.Nat.{◌-◌}
use mathlib.Core.Path.{◌≡◌}
use Rattle.msgpack.specs.MsgPack.{value}
use Rattle.maps.specs.Maps.{pairs, members_at, value_of}
use Rattle.maps.proofs.find.Given as goal

abbrev pub invariant-loop : goal.invariant-loop
invariant-loop l = value_of l.t l.key (pairs (value 6 l.t) (l.count - l.counter) l.p) ≡ value_of l.t l.key (members_at l.t l.at)
