use mathlib.Core.Path.{◌≡◌}
use Prim.Native.Nat.{◌≤◌}
use lib.ListN.{length}
use Rattle.seq.specs.Bytes.{same}
use Rattle.strings.specs.Strings.{undone}
use Rattle.strings.specs.Places.{rest, Within}
use Rattle.strings.proofs.same_characters.Given as goal

abbrev pub invariant-loop-i : goal.invariant-loop-i
invariant-loop-i l =
    (same (undone l.x) (undone l.y) ≡ same (rest l.x l.i l.ik) (rest l.y l.j l.jk)) × ((l.i ≤ length l.x) × Within l.x l.i l.ik) × ((l.j ≤ length l.y) × Within l.y l.j l.jk)

abbrev pub decreases-loop-i : goal.decreases-loop-i
decreases-loop-i l = length (rest l.x l.i l.ik)
