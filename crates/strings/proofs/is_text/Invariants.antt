use mathlib.Core.Path.{◌≡◌}
use Prim.Native.Nat.{◌≤◌}
use lib.ListN.{length, drop}
use Rattle.seq.specs.Bytes.{same}
use Rattle.strings.specs.Strings.{undone}
use Rattle.strings.specs.Places.{rest, Within}
use Rattle.strings.proofs.is_text.Given as goal

abbrev pub invariant-loop-at : goal.invariant-loop-at
invariant-loop-at l =
    (same (undone l.t) l.text ≡ same (rest l.t l.at l.k) (drop l.i l.text)) × (l.i ≤ length l.text) × (l.at ≤ length l.t) × Within l.t l.at l.k

abbrev pub decreases-loop-at : goal.decreases-loop-at
decreases-loop-at l = length (rest l.t l.at l.k)
