use mathlib.Core.Path.{sym}
use Rattle.utf8.proofs.Laws.{lead4a, lead4b, lead4c, lead4d}
use Rattle.utf8.proofs.four.Goals as goal

pub returns-then-b-lt241 : goal.returns-then-b-lt241
returns-then-b-lt241 c = sym (lead4a c.args.b c.requires c.if-b-lt241.true)

pub returns-then-b-lt244 : goal.returns-then-b-lt244
returns-then-b-lt244 c = sym (lead4b c.args.b c.requires c.if-b-lt241.false c.if-b-lt244.true)

pub returns-then-b-lt245 : goal.returns-then-b-lt245
returns-then-b-lt245 c = sym (lead4c c.args.b c.requires c.if-b-lt244.false c.if-b-lt245.true)

pub returns : goal.returns
returns c = sym (lead4d c.args.b c.requires c.if-b-lt245.false)
