use mathlib.Core.Path.{◌≡◌}
use Prim.Native.Nat.{◌≤◌, ◌-◌}
use lib.ListN.{length}
use lib.Seq.{paste}
use Rattle.show.proofs.put.Given as goal

abbrev pub invariant-loop-i : goal.invariant-loop-i
invariant-loop-i l = (l.out ≡ paste l.initial.out l.at l.text l.i) × (length l.out ≡ length l.initial.out)
    × (l.n ≡ length l.text - (length l.text - (length l.initial.out - l.at)))
