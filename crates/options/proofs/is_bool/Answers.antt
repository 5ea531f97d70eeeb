use Rattle.options.proofs.is_bool.Goals as goal

pub returns-then-b : goal.returns-then-b
returns-then-b c = rw (c.in-Json.is, c.if-b.true) c.same_bytes.ensures

pub returns-then-b-2 : goal.returns-then-b-2
returns-then-b-2 c = rw (c.in-MsgPack.is, c.if-b-2.true) c.same_bytes-then-b-2.ensures

pub returns-else-b : goal.returns-else-b
returns-else-b c = rw (c.in-Json.is, c.if-b.false) c.same_bytes-in-Json.ensures

pub returns-else-b-2 : goal.returns-else-b-2
returns-else-b-2 c = rw (c.in-MsgPack.is, c.if-b-2.false) c.same_bytes-in-MsgPack.ensures
