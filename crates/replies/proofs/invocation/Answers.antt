use mathlib.Core.Path.{◌∙◌}
use Rattle.pieces.specs.Pieces.{shorts, bytes_of}
use Rattle.replies.proofs.Shapes.{invocation-plain, invocation-named}
use Rattle.replies.proofs.invocation.Goals as goal

pub returns-in-Plain : goal.returns-in-Plain
unfolding shorts bytes_of
returns-in-Plain c = λ m. c.plain.ensures m ∙ invocation-plain m _ c.in-Plain.is

pub returns-in-Names : goal.returns-in-Names
unfolding shorts bytes_of
returns-in-Names c = λ m. c.named.ensures m ∙ invocation-named m _ c.in-Names.is
