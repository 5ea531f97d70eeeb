use Rattle.strings.specs.Strings.{undone}
use Rattle.strings.specs.Places.{rest, Within}
use mathlib.Core.Path.{◌≡◌}
use Prim.Native.Nat.{◌+◌, ◌≤◌}
use lib.ListN.{length}
use Rattle.packing.proofs.undone_len.Given as goal

abbrev pub invariant-loop-at : goal.invariant-loop-at
invariant-loop-at l = (l.n + length (rest l.t l.at l.k) ≡ length (undone l.t)) × (l.at ≤ length l.t) × Within l.t l.at l.k

abbrev pub decreases-loop-at : goal.decreases-loop-at
decreases-loop-at l = length (rest l.t l.at l.k)
