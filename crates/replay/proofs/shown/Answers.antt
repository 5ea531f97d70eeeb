use mathlib.Core.Path.{◌∙◌}
use Rattle.replay.proofs.shown.Goals as goal

pub returns : goal.returns
returns c =
    c.text.ensures ∙ rw c.text_end-to.ensures
