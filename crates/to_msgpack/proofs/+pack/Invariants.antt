use Rattle.to_msgpack.proofs.Lists.{Going, Few}
use Rattle.json_text.proofs.Laws.{left}
use Rattle.lex.specs.Lex.{close_list, close_dict, Marked}
use Rattle.seq.specs.declared.Format.TheVariants.{Json, MsgPack}
use Rattle.values.specs.Write.{pack_member, write}
use Rattle.values.specs.Stands.{json_member_at, stands}
use lib.ListN.{length}
use mathlib.Core.Path.{◌≡◌}
use Prim.Native.Nat.{◌+◌, ◌*◌, ◌-◌}
use Rattle.to_msgpack.proofs.+pack.Given as goal

abbrev pub decreases-pack_value : goal.decreases-pack_value
decreases-pack_value l = 3 * (length l.s.now - l.at)

abbrev pub decreases-pack_list : goal.decreases-pack_list
decreases-pack_list l = 3 * (length l.s.now - l.at) + 2

abbrev pub decreases-pack_dict : goal.decreases-pack_dict
decreases-pack_dict l = 3 * (length l.s.now - l.at) + 2

abbrev pub decreases-pack_member : goal.decreases-pack_member
decreases-pack_member l = 3 * (length l.s.now - l.at) + 1

abbrev pub invariant-pack_list-loop-m : goal.invariant-pack_list-loop-m
invariant-pack_list-loop-m l =
    Going (stands Json l.depth l.s) (write MsgPack l.depth) close_list l.s l.at l.initial.out l.initial.q l.q l.n l.m l.out
    × Marked l.at (length l.s) l.m
    × Few l.n l.m
    × (length l.out ≡ length l.initial.out)

abbrev pub decreases-pack_list-loop-m : goal.decreases-pack_list-loop-m
decreases-pack_list-loop-m l = left (length l.s) l.m

abbrev pub invariant-pack_dict-loop-m : goal.invariant-pack_dict-loop-m
invariant-pack_dict-loop-m l =
    Going (json_member_at (stands Json l.depth l.s) l.s) (pack_member (write MsgPack l.depth)) close_dict l.s l.at l.initial.out l.initial.q l.q l.n l.m l.out
    × Marked l.at (length l.s) l.m
    × Few l.n l.m
    × (length l.out ≡ length l.initial.out)

abbrev pub decreases-pack_dict-loop-m : goal.decreases-pack_dict-loop-m
decreases-pack_dict-loop-m l = left (length l.s) l.m
