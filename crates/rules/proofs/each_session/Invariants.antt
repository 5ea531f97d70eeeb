use mathlib.Core.Path.{◌≡◌}
use lib.ListN.{drop}
use Rattle.seq.specs.Lists.{every}
use Rattle.rules.specs.ByTable.{session_lawful}
use Rattle.rules.proofs.each_session.Given as goal

abbrev pub invariant-loop-s : goal.invariant-loop-s
invariant-loop-s l = every (session_lawful) l.s-items ≡ every (session_lawful) (drop l.s-index l.s-items)
