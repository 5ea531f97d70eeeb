use Prim.Native.Nat.{◌+◌, ◌*◌, ◌-◌, ◌≤◌}
use lib.ListN.{length}
use Rattle.lex.specs.Lex.{Marked}
use Rattle.json_text.specs.Json
use Rattle.json_text.specs.Keys.{table, texts, Entered, Kept}
use Rattle.json_text.proofs.Laws.{Reads, left, MReads, Room}
use Rattle.json_text.proofs.+value.Given as goal

abbrev pub decreases-read_value : goal.decreases-read_value
decreases-read_value l = 2 * (length l.s.now - l.at)

abbrev pub decreases-read_list : goal.decreases-read_list
decreases-read_list l = 2 * (length l.s.now - l.at) + 1

abbrev pub decreases-read_dict : goal.decreases-read_dict
decreases-read_dict l = 2 * (length l.s.now - l.at) + 1

abbrev pub invariant-read_list-loop-m : goal.invariant-read_list-loop-m
invariant-read_list-loop-m l =
    Reads (Json.value (l.depth - 1) l.s) 93 l.s l.m (Json.list l.depth l.s l.at)
    × Marked l.at (length l.s) l.m
    × Kept l.n (table l.initial.starts l.initial.ends l.initial.marks) (table l.starts l.ends l.marks)

abbrev pub decreases-read_list-loop-m : goal.decreases-read_list-loop-m
decreases-read_list-loop-m l = left (length l.s) l.m

abbrev pub invariant-read_dict-loop-m : goal.invariant-read_dict-loop-m
invariant-read_dict-loop-m l =
    MReads (Json.value (l.depth - 1) l.s) l.s (texts l.s (table l.starts l.ends l.marks) l.n (l.z - l.n)) l.m
    (Json.dict l.depth l.s l.at)
    × Marked l.at (length l.s) l.m
    × Room l.z l.m
    × (l.n ≤ l.z)
    × Entered l.s (table l.starts l.ends l.marks) l.n l.z
    × Kept l.n (table l.initial.starts l.initial.ends l.initial.marks) (table l.starts l.ends l.marks)

abbrev pub decreases-read_dict-loop-m : goal.decreases-read_dict-loop-m
decreases-read_dict-loop-m l = left (length l.s) l.m
