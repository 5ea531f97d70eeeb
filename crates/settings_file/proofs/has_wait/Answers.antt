use Rattle.settings_file.proofs.has_wait.Goals as goal

pub returns : goal.returns
returns c = rw c.byte.ensures
