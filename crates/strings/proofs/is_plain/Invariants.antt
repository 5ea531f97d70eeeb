use mathlib.Core.Bool.{◌&&◌}
use mathlib.Core.Path.{◌≡◌}
use lib.ListN.{drop}
use Rattle.strings.specs.Strings.{is_plain}
use Rattle.strings.proofs.is_plain.Given as goal

abbrev pub invariant-loop-b : goal.invariant-loop-b
invariant-loop-b l = is_plain l.t ≡ (l.plain && is_plain (drop l.b-index l.t))
