use Rattle.packing.proofs.Undone.{Begun}
use Rattle.strings.specs.Places.{rest, Within}
use mathlib.Core.Path.{◌≡◌}
use Prim.Native.Nat.{◌≤◌}
use lib.ListN.{length}
use Rattle.packing.proofs.put_undone.Given as goal

abbrev pub invariant-loop-at : goal.invariant-loop-at
invariant-loop-at l =
    Begun l.t l.initial.out l.o l.q l.at l.k l.out × (l.at ≤ length l.t) × Within l.t l.at l.k × (length l.out ≡ length l.initial.out)

abbrev pub decreases-loop-at : goal.decreases-loop-at
decreases-loop-at l = length (rest l.t l.at l.k)
