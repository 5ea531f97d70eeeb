use Prim.Native.Nat.{◌≤◌, ◌-◌, ◌+◌}
use mathlib.Core.Path.{◌≡◌}
use lib.ListN.{length}
use Rattle.pattern.specs.Match.{beats_text}
use Rattle.pattern.proofs.Laws.{beats_at}
use Rattle.pattern.proofs.beats.Given as goal

abbrev pub invariant-loop-i : goal.invariant-loop-i
invariant-loop-i l = (l.i ≤ length l.a + 1) × (l.j ≤ length l.b + 1) × (beats_text l.a l.b ≡ beats_at l.a l.i l.b l.j)

abbrev pub decreases-loop-i : goal.decreases-loop-i
decreases-loop-i l = length l.a + 1 - l.i
