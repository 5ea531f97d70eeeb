use Rattle.parser.proofs.is_string.Goals as goal

pub returns-in-Json : goal.returns-in-Json
returns-in-Json c = rw (c.in-Json.is, c.byte.ensures)

pub returns-in-MsgPack : goal.returns-in-MsgPack
returns-in-MsgPack c = rw (c.in-MsgPack.is, c.head_at-h.ensures.means)
