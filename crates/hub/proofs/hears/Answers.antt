use mathlib.Core.Path.{◌∙◌}
use Rattle.seq.specs.Bytes.{source}
use Rattle.model.specs.Step.{hears}
use Rattle.hub.proofs.hears.Goals as goal

pub returns-in-Open : goal.returns-in-Open
unfolding hears
returns-in-Open c = λ e. rw c.in-Open.is (c.on_open.ensures e)

pub returns-in-OpenMsgPack : goal.returns-in-OpenMsgPack
unfolding hears
returns-in-OpenMsgPack c = λ e. rw c.in-OpenMsgPack.is (c.on_open-in-OpenMsgPack.ensures e)

pub returns-in-Attached : goal.returns-in-Attached
unfolding hears
returns-in-Attached c =
    let a = c.args in
    λ e. rw c.in-Attached.is (c.on_attached.ensures _ _ ∙ rw (c.early_of.ensures (source a.message.now a.text.now)))

pub returns-in-AttachedMsgPack : goal.returns-in-AttachedMsgPack
unfolding hears
returns-in-AttachedMsgPack c =
    let a = c.args in
    λ e. rw c.in-AttachedMsgPack.is (c.on_attached-in-AttachedMsgPack.ensures _ _ ∙ rw (c.early_of-in-AttachedMsgPack.ensures (source a.message.now a.text.now)))

pub returns-in-Closed : goal.returns-in-Closed
unfolding hears
returns-in-Closed c = λ e. rw c.in-Closed.is (c.silent.ensures _ _)
