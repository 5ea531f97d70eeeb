use Rattle.settings.specs.Lent.{settings_of}
use Rattle.settings.proofs.realm.Goals as goal

pub returns : goal.returns
unfolding settings_of
returns c = c.text_in.ensures
