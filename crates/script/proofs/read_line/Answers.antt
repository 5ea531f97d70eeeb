use Rattle.script.specs.Script.{read_line}
use Rattle.script.proofs.read_line.Goals as goal

pub returns : goal.returns
unfolding read_line
returns c = rw (c.read_text.ensures, c.text.ensures, c.text_end-end.ensures)
