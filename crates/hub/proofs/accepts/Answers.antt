use Rattle.model.specs.Step.{accepts}
use Rattle.hub.proofs.accepts.Goals as goal

pub returns-in-Closed : goal.returns-in-Closed
unfolding accepts
returns-in-Closed c = rw c.in-Closed.is

pub returns-in-Attached : goal.returns-in-Attached
returns-in-Attached c = rw c.in-Attached.is c.greets.ensures

pub returns-in-Open : goal.returns-in-Open
unfolding accepts
returns-in-Open c = rw c.in-Open.is

pub returns-in-AttachedMsgPack : goal.returns-in-AttachedMsgPack
returns-in-AttachedMsgPack c = rw c.in-AttachedMsgPack.is c.greets-in-AttachedMsgPack.ensures

pub returns-in-OpenMsgPack : goal.returns-in-OpenMsgPack
unfolding accepts
returns-in-OpenMsgPack c = rw c.in-OpenMsgPack.is
