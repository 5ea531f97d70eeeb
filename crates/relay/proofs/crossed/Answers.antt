use mathlib.Core.Path.{sym, ◌∙◌}
use Rattle.seq.proofs.Logic.{clash}
use Rattle.relay.proofs.crossed.Goals as goal

pub returns-then-rows_cross : goal.returns-then-rows_cross
returns-then-rows_cross c = λ t. c.payload.ensures

pub returns : goal.returns
returns c = λ t. clash t (sym c.rows_cross.ensures ∙ c.if-rows_cross.false)
