use mathlib.Core.Bool.{true, false}
use mathlib.Core.Path.{ap, ◌∙◌}
use Rattle.conversion.specs.Sources.{across}
use Rattle.sections.proofs.Sections.{same-is}
use Rattle.sections.proofs.speaks.Goals as goal

pub returns : goal.returns
returns c = same-is _ _ c.eq.ensures ∙ ap (λ g. across c.args.f g true false) c.format_at.ensures
