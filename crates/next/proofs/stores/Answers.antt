use mathlib.Core.Path.{refl}
use Rattle.model.specs.Step.{says}
use Rattle.next.proofs.stores.Goals as goal

pub returns : goal.returns
unfolding says
returns c = λ h m. refl
