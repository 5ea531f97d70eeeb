use mathlib.Core.Path.{refl}
use Rattle.hub.proofs.nothing.Goals as goal

pub returns : goal.returns
returns c = λ f s. refl
