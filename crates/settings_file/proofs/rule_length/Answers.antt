use Rattle.settings_file.specs.File.{rule_length}
use Rattle.settings_file.proofs.rule_length.Goals as goal

pub returns : goal.returns
unfolding rule_length
returns c = rw (c.size.ensures, c.byte.ensures, c.from.ensures)
