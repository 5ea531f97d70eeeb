use borrow.Author.Tests.{eq-eqb, ne_eqb}
use Rattle.utf8.proofs.is_whole.Goals as goal

pub returns-then-w-ne0 : goal.returns-then-w-ne0
returns-then-w-ne0 c = rw (ne_eqb c.args.w.n 0 c.if-w-ne0.true)

pub returns : goal.returns
returns c = rw (eq-eqb c.args.w.n 0 c.if-w-ne0.false)
