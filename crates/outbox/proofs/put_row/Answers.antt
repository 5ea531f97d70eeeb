use mathlib.Core.Path.{ap}
use native.Mathlib.Omega.{arith}
use Rattle.seq.specs.Lists.{joined}
use Rattle.buffer.proofs.Wrote.{told, tells, wrote, wrote_none}
use Rattle.conversion.specs.Sources.{sources}
use Rattle.outgoing.specs.Layout.{formats_of}
use Rattle.outbox.specs.Emit.{section}
use Rattle.outbox.proofs.Turns.{event-none, event-some}
use Rattle.outbox.proofs.put_row.Goals as goal

pub returns-then-row-eq0 : goal.returns-then-row-eq0
returns-then-row-eq0 c =
    let x = c.args in
    let fs = formats_of x.step.packed in
    let m = sources x.step.from x.step.message.now x.step.converted.now x.step.text.now in
    let none = ap (joined (section fs x.s)) (event-none fs m x.publication x.payload x.other x.row c.if-row-eq0.true) in
    tells (wrote none (wrote_none _ _ (omega arith)))

pub returns : goal.returns
returns c =
    let x = c.args in
    let fs = formats_of x.step.packed in
    let m = sources x.step.from x.step.message.now x.step.converted.now x.step.text.now in
    let some = event-some fs m x.publication x.payload x.other x.row x.s c.if-row-eq0.false in
    tells (wrote some (told _ _ _ c.put_to_each.ensures))
