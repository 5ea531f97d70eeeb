use Rattle.settings.specs.Lent.{rule_of}
use Rattle.settings.proofs.prefix.Goals as goal

pub returns : goal.returns
unfolding rule_of
returns c = rw (c.text_in.ensures, c.from.ensures)
