use Prim.Native.Nat.{◌≤◌, ◌+◌}
use lib.ListN.{length}
use Rattle.uri.proofs.Places.{Filled}
use Rattle.uri.proofs.split.Given as goal

abbrev pub invariant-loop-count : goal.invariant-loop-count
invariant-loop-count l = (l.at ≤ length l.text + 1) × Filled l.text l.places l.count l.at
