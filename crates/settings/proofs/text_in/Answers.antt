use mathlib.Core.Path.{◌∙◌}
use Rattle.seq.proofs.BigEndian.{part-size}
use Rattle.settings.specs.Lent.{text_in}
use Rattle.settings.proofs.text_in.Goals as goal

pub returns : goal.returns
unfolding text_in
returns c = c.text.ensures ∙ rw (c.size-n.ensures, c.byte.ensures, part-size 1 _)
