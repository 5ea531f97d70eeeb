use Rattle.edges.proofs.attach.Goals as goal

pub returns-in-Json : goal.returns-in-Json
returns-in-Json c =
    let told = c.hub_attach.ensures in
    record { answer = rw c.in-Json.is told.answer; state = rw c.in-Json.is told.state; bytes = rw c.in-Json.is told.bytes }

pub returns-in-MsgPack : goal.returns-in-MsgPack
returns-in-MsgPack c =
    let told = c.hub_attach_msgpack.ensures in
    record { answer = rw c.in-MsgPack.is told.answer; state = rw c.in-MsgPack.is told.state; bytes = rw c.in-MsgPack.is told.bytes }
