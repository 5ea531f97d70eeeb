use mathlib.Core.Path.{ap, ◌∙◌}
use Rattle.image.specs.Image.{with_sessions}
use Rattle.state.proofs.Laws.{issues}
use Rattle.state.proofs.issued.Goals as goal

pub returns : goal.returns
returns c = λ h. ap (with_sessions h) c.advanced_at.ensures ∙ issues h c.args.sessions c.args.slot
