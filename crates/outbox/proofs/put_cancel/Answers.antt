use mathlib.Core.Path.{ap}
use native.Mathlib.Omega.{arith}
use Rattle.seq.specs.Bytes.{source}
use Rattle.seq.specs.Lists.{joined}
use Rattle.buffer.proofs.Wrote.{told, tells, wrote, wrote_none}
use Rattle.outgoing.specs.Layout.{formats_of}
use Rattle.outbox.specs.Emit.{section}
use Rattle.outbox.proofs.Turns.{cancel-none, cancel-some}
use Rattle.outbox.proofs.put_cancel.Goals as goal

pub returns-then-c-eq0 : goal.returns-then-c-eq0
returns-then-c-eq0 c =
    let x = c.args in
    let fs = formats_of x.step.packed in
    tells (wrote (ap (joined (section fs x.s)) (cancel-none fs _ c.if-c-eq0.true)) (wrote_none _ _ (omega arith)))

pub returns : goal.returns
returns c =
    let x = c.args in
    let format-at = c.format_at-format in
    let some = cancel-some (formats_of x.step.packed) (source x.step.message.now x.step.text.now) x.c x.s c.if-c-eq0.false _ format-at.ensures in
    tells (wrote some (told _ _ _ c.put_reply.ensures))
