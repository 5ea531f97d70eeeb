use mathlib.Core.List.{[]}
use mathlib.Core.Path.{refl, ap, ◌∙◌}
use Prim.Native.Nat.{◌+◌}
use native.Mathlib.Omega.{arith}
use Rattle.seq.proofs.Joined.{joined-all}
use Rattle.buffer.specs.Capped.{capped}
use Rattle.outgoing.specs.Layout.{formats_of}
use Rattle.outbox.specs.Meaning.{cancel_mails}
use Rattle.outbox.specs.Emit.{added_by}
use Rattle.outbox.proofs.Mails.{sized-none}
use Rattle.outbox.proofs.Turns.{no-cancel, row_sized}
use borrow.Author.Rules.{rules}
use Rattle.outbox.proofs.size_cancels.Goals as goal

pub loop-cancel-init : goal.loop-cancel-init
loop-cancel-init c = (search rules, sized-none _ [] refl _ (omega arith))

pub loop-cancel-preserved : goal.loop-cancel-preserved
loop-cancel-preserved c =
    let x = c.args in
    let l = c.loop-cancel in
    let fs = formats_of x.step.packed in
    let turn = row_sized fs cancel_mails no-cancel x.cancels l.cancel-index (omega arith) x.at l.o c.size_cancel-o.result l.invariant.1 c.size_cancel-o.ensures in
    (search rules, turn)

pub returns : goal.returns
returns c =
    let x = c.args in
    let l = c.loop-cancel in
    l.invariant.1 ∙ ap (λ ms. capped (x.at + added_by (formats_of x.step.packed) ms)) (joined-all cancel_mails x.cancels l.cancel-index (omega arith))
