use mathlib.Core.List.{[]}
use mathlib.Core.Path.{refl, ap, ◌∙◌}
use Prim.Native.Nat.{◌+◌}
use native.Mathlib.Omega.{arith}
use Rattle.seq.proofs.Joined.{joined-all}
use Rattle.buffer.specs.Capped.{capped}
use Rattle.conversion.specs.Sources.{sources}
use Rattle.outgoing.specs.Layout.{formats_of}
use Rattle.outbox.specs.Meaning.{event_mails}
use Rattle.outbox.specs.Emit.{added_by}
use Rattle.outbox.proofs.Mails.{sized-none}
use Rattle.outbox.proofs.Turns.{no-event, row_sized}
use borrow.Author.Rules.{rules}
use Rattle.outbox.proofs.size_events.Goals as goal

pub loop-row-init : goal.loop-row-init
loop-row-init c = (search rules, sized-none _ [] refl _ (omega arith))

pub loop-row-preserved : goal.loop-row-preserved
loop-row-preserved c =
    let x = c.args in
    let fs = formats_of x.step.packed in
    let m = sources x.step.from x.step.message.now x.step.converted.now x.step.text.now in
    let l = c.loop-row in
    let event = event_mails fs m x.publication x.payload x.other in
    let turn = row_sized fs event no-event x.events l.row-index (omega arith) x.at l.o c.size_row-o.result l.invariant.1 c.size_row-o.ensures in
    (search rules, turn)

pub returns : goal.returns
returns c =
    let x = c.args in
    let fs = formats_of x.step.packed in
    let m = sources x.step.from x.step.message.now x.step.converted.now x.step.text.now in
    let l = c.loop-row in
    let event = event_mails fs m x.publication x.payload x.other in
    l.invariant.1 ∙ ap (λ ms. capped (x.at + added_by fs ms)) (joined-all event x.events l.row-index (omega arith))
