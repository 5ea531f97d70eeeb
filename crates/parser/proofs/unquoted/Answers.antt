use mathlib.Core.Path.{refl}
use Rattle.parser.proofs.Laws.{unquoted-none}
use Rattle.parser.proofs.unquoted.Goals as goal

pub returns-then-p : goal.returns-then-p
returns-then-p c = λ s. refl

pub returns : goal.returns
returns c = λ s. unquoted-none s c.args.p.from c.args.p.to c.if-p.false
