use mathlib.Core.Path.{◌≡◌}
use lib.ListN.{drop}
use Rattle.seq.specs.Lists.{every}
use Rattle.rules.specs.ByTable.{call_lawful}
use Rattle.rules.proofs.each_call.Given as goal

abbrev pub invariant-loop-call : goal.invariant-loop-call
invariant-loop-call l = every (call_lawful l.sessions) l.call-items ≡ every (call_lawful l.sessions) (drop l.call-index l.call-items)
