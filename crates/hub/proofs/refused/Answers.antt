use mathlib.Core.Path.{refl}
use Rattle.model.specs.Step.{refused}
use Rattle.hub.proofs.refused.Goals as goal

pub returns : goal.returns
unfolding refused
returns c = λ h. refl
