use mathlib.Core.Path.{◌∙◌}
use Rattle.model.specs.State.{empty_hub}
use Rattle.image.specs.Image.{hub_of}
use Rattle.image.proofs.Parts.{held_of, held_none}
use Rattle.seq.proofs.Lists.{rest-size}
use Rattle.image.proofs.calls.Goals as goal

pub returns-then-state-ne9688 : goal.returns-then-state-ne9688
unfolding empty_hub
returns-then-state-ne9688 c = rw (held_none _ c.if-state-ne9688.true)

pub returns : goal.returns
unfolding hub_of
returns c = rw (held_of _ c.if-state-ne9688.false) (c.load_calls.ensures ∙ rw (rest-size 9112 _))
