use Rattle.model.specs.Step.{detaches}
use Rattle.hub.proofs.detaches.Goals as goal

pub returns-in-Open : goal.returns-in-Open
unfolding detaches
returns-in-Open c = λ h m. rw c.in-Open.is (c.ends.ensures h m)

pub returns-in-OpenMsgPack : goal.returns-in-OpenMsgPack
unfolding detaches
returns-in-OpenMsgPack c = λ h m. rw c.in-OpenMsgPack.is (c.ends-in-OpenMsgPack.ensures h m)

pub returns-in-Attached : goal.returns-in-Attached
unfolding detaches
returns-in-Attached c = λ h m. rw c.in-Attached.is (c.closes.ensures h m)

pub returns-in-AttachedMsgPack : goal.returns-in-AttachedMsgPack
unfolding detaches
returns-in-AttachedMsgPack c = λ h m. rw c.in-AttachedMsgPack.is (c.closes-in-AttachedMsgPack.ensures h m)

pub returns-in-Closed : goal.returns-in-Closed
unfolding detaches
returns-in-Closed c = λ h m. rw c.in-Closed.is (c.silent.ensures h m)
