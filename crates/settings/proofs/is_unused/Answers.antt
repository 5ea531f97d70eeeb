use Rattle.settings.specs.Lent.{unused}
use Rattle.settings.proofs.is_unused.Goals as goal

pub returns : goal.returns
unfolding unused
returns c = rw c.byte.ensures
