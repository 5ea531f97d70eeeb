use mathlib.Core.Bool.{◌&&◌}
use mathlib.Core.Path.{◌≡◌}
use lib.ListN.{drop}
use Rattle.quoting.specs.Quoting.{is_bare}
use Rattle.quoting.proofs.is_bare.Given as goal

abbrev pub invariant-loop-b : goal.invariant-loop-b
invariant-loop-b l = is_bare l.t ≡ (l.bare && is_bare (drop l.b-index l.t))
