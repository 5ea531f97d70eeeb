-- The answer is that of the search from row i on.
use Rattle.std.proofs.Common.{drop, ◌≡◌}
use Rattle.seq.specs.Lists.{first, first_from}
use Rattle.model.specs.State.{serves}
use Rattle.lent.proofs.find.Given as goal

abbrev pub invariant-loop-i : goal.invariant-loop-i
invariant-loop-i l = first_from (serves l.slot l.invocation) l.i (drop l.i l.calls) ≡ first (serves l.slot l.invocation) l.calls
