use mathlib.Core.Path.{◌≡◌}
use Prim.Native.Nat.{◌+◌, ◌*◌, ◌-◌, ◌≤◌, ◌<◌}
use lib.ListN.{length}
use Rattle.json_text.specs.Keys.{table}
use Rattle.msgpack.specs.MsgPack
use Rattle.msgpack.specs.Keys.{texts, Entered, Kept}
use Rattle.msgpack.proofs.+value.Given as goal

abbrev pub decreases-read_value : goal.decreases-read_value
decreases-read_value l = 2 * (length l.s.now - l.at)

abbrev pub decreases-read_array : goal.decreases-read_array
decreases-read_array l = 2 * (length l.s.now - l.at) + 1

abbrev pub decreases-read_map : goal.decreases-read_map
decreases-read_map l = 2 * (length l.s.now - l.at) + 1

abbrev pub invariant-read_array-loop : goal.invariant-read_array-loop
invariant-read_array-loop l =
    (MsgPack.times (MsgPack.value (l.depth - 1) l.s) (l.count - l.counter) l.p ≡ MsgPack.array_at l.depth l.s l.count l.at)
    × (l.at ≤ l.p)
    × (l.p ≤ length l.s)
    × Kept l.n (table l.initial.starts l.initial.ends l.initial.marks) (table l.starts l.ends l.marks)

abbrev pub invariant-read_map-loop : goal.invariant-read_map-loop
invariant-read_map-loop l =
    (MsgPack.pairs (MsgPack.value (l.depth - 1) l.s) l.s (texts l.s (table l.starts l.ends l.marks) l.n (l.z - l.n)) (l.count - l.counter) l.p
    ≡ MsgPack.map_at l.depth l.s l.count l.at)
    × (l.at ≤ l.p)
    × (l.p ≤ length l.s)
    × (2 * l.z < l.p)
    × (l.n ≤ l.z)
    × Entered l.s (table l.starts l.ends l.marks) l.n l.z
    × Kept l.n (table l.initial.starts l.initial.ends l.initial.marks) (table l.starts l.ends l.marks)
