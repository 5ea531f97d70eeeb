use Rattle.model.specs.Step.{wrong_time}
use Rattle.hub.proofs.is_closed.Goals as goal

pub returns-in-Closed : goal.returns-in-Closed
unfolding wrong_time
returns-in-Closed c = rw c.in-Closed.is

pub returns-in-Attached : goal.returns-in-Attached
unfolding wrong_time
returns-in-Attached c = rw c.in-Attached.is

pub returns-in-Open : goal.returns-in-Open
unfolding wrong_time
returns-in-Open c = rw c.in-Open.is

pub returns-in-AttachedMsgPack : goal.returns-in-AttachedMsgPack
unfolding wrong_time
returns-in-AttachedMsgPack c = rw c.in-AttachedMsgPack.is

pub returns-in-OpenMsgPack : goal.returns-in-OpenMsgPack
unfolding wrong_time
returns-in-OpenMsgPack c = rw c.in-OpenMsgPack.is
