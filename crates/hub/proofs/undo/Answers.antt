use Rattle.hub.proofs.undo.Goals as goal

pub returns-in-Json : goal.returns-in-Json
returns-in-Json c = rw c.in-Json.is c.undo.ensures

pub returns-in-MsgPack : goal.returns-in-MsgPack
returns-in-MsgPack c = rw c.in-MsgPack.is
