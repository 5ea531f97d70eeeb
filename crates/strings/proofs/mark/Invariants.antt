use mathlib.Core.Path.{◌≡◌}
use Prim.Native.Nat.{◌≤◌, ◌<◌}
use lib.ListN.{length}
use Rattle.strings.specs.Strings.{undone}
use Rattle.strings.specs.Places.{rest, Within, mark_from, mark_of}
use Rattle.strings.proofs.mark.Given as goal

abbrev pub invariant-loop-at : goal.invariant-loop-at
invariant-loop-at l = (mark_of (undone l.t) ≡ mark_from l.m (rest l.t l.at l.k)) × (l.m < 65536) × (l.at ≤ length l.t) × Within l.t l.at l.k

abbrev pub decreases-loop-at : goal.decreases-loop-at
decreases-loop-at l = length (rest l.t l.at l.k)
