use Prim.Native.Nat.{◌≤◌, ◌+◌, ◌-◌}
use mathlib.Core.Path.{◌≡◌}
use lib.ListN.{length}
use Rattle.replay.proofs.replay.Given as goal

abbrev pub invariant-loop-at : goal.invariant-loop-at
invariant-loop-at o l =
    (l.lines ≤ l.at) × (l.run.steps ≤ l.lines) × (l.at ≤ length l.script + 1) × (length l.out ≡ 65536) × (length l.text ≡ 2097152)

abbrev pub decreases-loop-at : goal.decreases-loop-at
decreases-loop-at o l = length l.script + 1 - l.at
