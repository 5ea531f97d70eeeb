use mathlib.Core.Path.{sym}
use Rattle.incoming.specs.Read.{ending}
use Rattle.parser.proofs.Laws.{cond_yes, cond_no}
use Rattle.parser.proofs.read_abort.Goals as goal

pub returns-then-kinds-ne-ENDING_SHAPE : goal.returns-then-kinds-ne-ENDING_SHAPE
unfolding ending
returns-then-kinds-ne-ENDING_SHAPE c = λ f s. sym (cond_no _ 142 _ _ c.if-kinds-ne-ENDING_SHAPE.true)

pub returns : goal.returns
unfolding ending
returns c = λ f s. rw c.plain.ensures (sym (cond_yes _ 142 _ _ c.if-kinds-ne-ENDING_SHAPE.false))
