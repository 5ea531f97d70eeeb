use Rattle.parser.proofs.inside.Goals as goal

pub returns-in-Json : goal.returns-in-Json
returns-in-Json c = rw c.in-Json.is c.between.ensures

pub returns-in-MsgPack : goal.returns-in-MsgPack
returns-in-MsgPack c = rw c.in-MsgPack.is c.str_bytes.ensures
