use mathlib.Core.Path.{◌∙◌}
use Rattle.seq.proofs.Lists.{rest-size}
use Rattle.seq.proofs.from.Goals as goal

pub returns : goal.returns
returns c = c.text.ensures ∙ rest-size c.args.at c.args.s.now
