use Prim.Native.Nat.{◌+◌}
use mathlib.Core.Path.{ap, ◌∙◌}
use native.Mathlib.Omega.{arith}
use Rattle.buffer.specs.Capped.{capped}
use Rattle.conversion.specs.Sources.{sources}
use Rattle.outgoing.specs.Layout.{formats_of}
use Rattle.outbox.proofs.Mails.{sized-none}
use Rattle.outbox.proofs.Turns.{event-none, event-adds}
use Rattle.outbox.proofs.size_row.Goals as goal

pub returns-then-row-eq0 : goal.returns-then-row-eq0
returns-then-row-eq0 c =
    let x = c.args in
    let fs = formats_of x.step.packed in
    let m = sources x.step.from x.step.message.now x.step.converted.now x.step.text.now in
    sized-none fs _ (event-none fs m x.publication x.payload x.other x.row c.if-row-eq0.true) x.at (omega arith)

pub returns : goal.returns
returns c =
    let x = c.args in
    let fs = formats_of x.step.packed in
    let m = sources x.step.from x.step.message.now x.step.converted.now x.step.text.now in
    c.size_to_each.ensures
    ∙ ap (λ k. capped (x.at + k)) (event-adds fs m x.publication x.payload x.other x.row c.if-row-eq0.false)
