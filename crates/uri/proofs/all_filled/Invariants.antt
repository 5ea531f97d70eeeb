use Prim.Native.Nat.{◌≤◌, ◌-◌, ◌+◌}
use mathlib.Core.Path.{◌≡◌}
use lib.ListN.{length}
use Rattle.uri.specs.Uri.{filled}
use Rattle.uri.proofs.Laws.{components_at}
use Rattle.uri.proofs.Laws.{filled_parts}
use Rattle.uri.proofs.all_filled.Given as goal

abbrev pub invariant-loop-i : goal.invariant-loop-i
invariant-loop-i l = (l.i ≤ length l.text + 1) × (filled l.last_open l.text ≡ filled_parts l.last_open (components_at l.text l.i))

abbrev pub decreases-loop-i : goal.decreases-loop-i
decreases-loop-i l = length l.text + 1 - l.i
