use mathlib.Core.Path.{◌≡◌}
use lib.ListN.{drop}
use Rattle.model.specs.Rules.{holders_open}
use Rattle.rules.proofs.holders_open.Given as goal

abbrev pub invariant-loop-i : goal.invariant-loop-i
invariant-loop-i l = holders_open l.sessions l.holders ≡ holders_open (drop l.i l.sessions) (drop l.i l.holders)
