use mathlib.Core.Path.{refl, ap}
use native.Mathlib.Omega.{arith}
use Rattle.seq.specs.Lists.{joined}
use Rattle.seq.proofs.Joined.{joined-all}
use Rattle.buffer.proofs.Wrote.{told, tells, wrote, wrote_none}
use Rattle.conversion.specs.Sources.{sources}
use Rattle.outgoing.specs.Layout.{formats_of}
use Rattle.outbox.specs.Meaning.{event_mails}
use Rattle.outbox.specs.Emit.{section}
use Rattle.outbox.proofs.Turns.{no-event, row-turn}
use borrow.Author.Rules.{rules}
use Rattle.outbox.proofs.put_events.Goals as goal

pub loop-row-init : goal.loop-row-init
loop-row-init c = (search rules, wrote_none _ _ (omega arith), refl)

pub loop-row-preserved : goal.loop-row-preserved
loop-row-preserved c =
    let put-row = c.put_row-o in
    let x = c.args in
    let fs = formats_of x.step.packed in
    let m = sources x.step.from x.step.message.now x.step.converted.now x.step.text.now in
    let room = c.well_formed.1.1.1.1.1.1.0 in
    let l = c.loop-row in
    let events = event_mails fs m x.publication x.payload x.other in
    let turn = row-turn fs events no-event x.events l.row-index (omega arith) x.s (omega (arith, room)) l.invariant.1 (told _ _ _ put-row.ensures) in
    (search rules, turn, omega (arith, put-row.auto, l.invariant.2))

pub shape_of-out : goal.shape_of-out
shape_of-out c = c.loop-row.invariant.2

pub returns : goal.returns
returns c =
    let x = c.args in
    let fs = formats_of x.step.packed in
    let m = sources x.step.from x.step.message.now x.step.converted.now x.step.text.now in
    let l = c.loop-row in
    let events = event_mails fs m x.publication x.payload x.other in
    tells (wrote (ap (joined (section fs x.s)) (joined-all events x.events l.row-index (omega arith))) l.invariant.1)
