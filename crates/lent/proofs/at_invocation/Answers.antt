use native.Mathlib.Omega.{arith}
use native.Mathlib.Numerals.{add-one}
use borrow.Author.Tests.{lt-ltb, le-ltb}
use Rattle.seq.specs.Numbers.{last_id}
use Rattle.lent.specs.Counters.{at_invocation}
use Rattle.lent.proofs.at_invocation.Goals as goal

pub returns-then-last-ge-LAST_ID : goal.returns-then-last-ge-LAST_ID
unfolding at_invocation
returns-then-last-ge-LAST_ID c = rw (le-ltb c.args.s.invocation last_id (omega arith))

pub returns : goal.returns
unfolding at_invocation
returns c = rw (lt-ltb c.args.s.invocation last_id (omega arith), add-one)
