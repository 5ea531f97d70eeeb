use Rattle.parser.proofs.is_text.Goals as goal

pub returns-in-Json : goal.returns-in-Json
returns-in-Json c = rw c.in-Json.is c.is_text.ensures

pub returns-in-MsgPack : goal.returns-in-MsgPack
returns-in-MsgPack c = rw c.in-MsgPack.is c.same_bytes.ensures
