use Rattle.parser.proofs.is_sound.Goals as goal

pub returns-in-Json : goal.returns-in-Json
returns-in-Json c = rw (c.in-Json.is, c.has_lone.ensures)

pub returns-in-MsgPack : goal.returns-in-MsgPack
returns-in-MsgPack c = rw c.in-MsgPack.is
