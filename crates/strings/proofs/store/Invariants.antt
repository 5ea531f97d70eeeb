use mathlib.Core.Path.{◌≡◌}
use mathlib.Core.List.{◌++◌}
use Prim.Native.Nat.{◌≤◌}
use lib.ListN.{length, take}
use Rattle.strings.specs.Strings.{undone}
use Rattle.strings.specs.Places.{rest, Within, most_kept}
use Rattle.strings.proofs.store.Given as goal

abbrev pub invariant-loop-at : goal.invariant-loop-at
invariant-loop-at l =
    (undone l.t ≡ take l.n l.stored ++ rest l.t l.at l.k) × ((l.n ≤ most_kept) × (length l.stored ≡ most_kept)) × ((l.at ≤ length l.t) × Within l.t l.at l.k)

abbrev pub decreases-loop-at : goal.decreases-loop-at
decreases-loop-at l = length (rest l.t l.at l.k)
