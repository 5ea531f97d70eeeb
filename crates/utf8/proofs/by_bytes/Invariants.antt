use Rattle.utf8.specs.Utf8.{continues, well_formed}
use mathlib.Core.Path.{◌≡◌}
use lib.ListN.{drop}
use Rattle.utf8.proofs.by_bytes.Given as goal

abbrev pub invariant-loop-b : goal.invariant-loop-b
invariant-loop-b l = continues l.w (drop l.b-index l.s) ≡ well_formed l.s
