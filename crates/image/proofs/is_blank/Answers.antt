use mathlib.Core.Path.{ap, ◌∙◌}
use Rattle.seq.specs.Lists.{every}
use Rattle.model.specs.Rules.{is_zero}
use Rattle.image.proofs.is_blank.Goals as goal

pub returns : goal.returns
returns c = c.all_zero.ensures ∙ ap (every is_zero) c.row_part.ensures
