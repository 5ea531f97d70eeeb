use mathlib.Core.Path.{◌∙◌}
use Rattle.pieces.specs.Pieces.{shorts, bytes_of}
use Rattle.packs.proofs.Heads.{event-plain, event-named}
use Rattle.packs.proofs.event.Goals as goal

pub returns-in-Plain : goal.returns-in-Plain
returns-in-Plain c = λ m. c.plain.ensures m ∙ event-plain m _ c.in-Plain.is

pub returns-in-Names : goal.returns-in-Names
unfolding shorts bytes_of
returns-in-Names c = λ m. c.named.ensures m ∙ event-named m _ c.in-Names.is
