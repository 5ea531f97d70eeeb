use Rattle.settings.specs.Lent.{settings_of}
use Rattle.settings.proofs.wait.Goals as goal

pub returns : goal.returns
unfolding settings_of
returns c = rw (c.number32.ensures, c.from.ensures)
