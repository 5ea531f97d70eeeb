use Rattle.to_json.proofs.Going.{Going}
use Rattle.values.specs.Stands.{pack_member_at, stands}
use Rattle.seq.specs.declared.Format.TheVariants.{Json, MsgPack}
use Rattle.values.specs.Write.{json_member, write}
use lib.ListN.{length}
use mathlib.Core.Path.{◌≡◌}
use Prim.Native.Nat.{◌+◌, ◌*◌, ◌-◌, ◌≤◌}
use Rattle.to_json.proofs.+json.Given as goal

abbrev pub decreases-json_value : goal.decreases-json_value
decreases-json_value l = 3 * (length l.s.now - l.at)

abbrev pub decreases-json_list : goal.decreases-json_list
decreases-json_list l = 3 * (length l.s.now - l.at) + 2

abbrev pub decreases-json_dict : goal.decreases-json_dict
decreases-json_dict l = 3 * (length l.s.now - l.at) + 2

abbrev pub decreases-json_member : goal.decreases-json_member
decreases-json_member l = 3 * (length l.s.now - l.at) + 1

abbrev pub invariant-json_list-loop-i : goal.invariant-json_list-loop-i
invariant-json_list-loop-i l =
    Going (stands MsgPack l.depth l.s) (write Json l.depth) l.n l.at l.initial.out l.initial.q l.p l.q l.i l.out
    × (l.at ≤ l.p)
    × (l.p ≤ length l.s)
    × (length l.out ≡ length l.initial.out)

abbrev pub invariant-json_dict-loop-i : goal.invariant-json_dict-loop-i
invariant-json_dict-loop-i l =
    Going (pack_member_at (stands MsgPack l.depth l.s) l.s) (json_member (write Json l.depth)) l.n l.at l.initial.out l.initial.q l.p l.q l.i l.out
    × (l.at ≤ l.p)
    × (l.p ≤ length l.s)
    × (length l.out ≡ length l.initial.out)
