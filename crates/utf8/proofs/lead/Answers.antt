use mathlib.Core.Path.{sym}
use Rattle.utf8.proofs.Laws.{lead1, lead-tail, lead2}
use Rattle.utf8.proofs.lead.Goals as goal

pub returns-then-b-lt128 : goal.returns-then-b-lt128
returns-then-b-lt128 c = sym (lead1 c.args.b c.if-b-lt128.true)

pub returns-then-b-lt194 : goal.returns-then-b-lt194
returns-then-b-lt194 c = sym (lead-tail c.args.b c.if-b-lt128.false c.if-b-lt194.true)

pub returns-then-b-lt224 : goal.returns-then-b-lt224
returns-then-b-lt224 c = sym (lead2 c.args.b c.if-b-lt128.false c.if-b-lt194.false c.if-b-lt224.true)
