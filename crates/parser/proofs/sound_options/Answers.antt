use mathlib.Core.Path.{ap, ◌∙◌}
use Rattle.members.specs.Members.{sound_in}
use Rattle.parser.proofs.sound_options.Goals as goal

pub returns-in-Json : goal.returns-in-Json
unfolding sound_in
returns-in-Json c = rw c.in-Json.is (c.sound.ensures ∙ ap sound_in c.text.ensures)

pub returns-in-MsgPack : goal.returns-in-MsgPack
returns-in-MsgPack c = rw c.in-MsgPack.is
