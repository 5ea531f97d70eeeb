use mathlib.Core.Path.{refl, ap}
use native.Mathlib.Omega.{arith}
use Rattle.seq.specs.Lists.{joined}
use Rattle.seq.proofs.Joined.{joined-all}
use Rattle.buffer.proofs.Wrote.{told, tells, wrote, wrote_none}
use Rattle.outgoing.specs.Layout.{formats_of}
use Rattle.outbox.specs.Meaning.{cancel_mails}
use Rattle.outbox.specs.Emit.{section}
use Rattle.outbox.proofs.Turns.{no-cancel, row-turn}
use borrow.Author.Rules.{rules}
use Rattle.outbox.proofs.put_cancels.Goals as goal

pub loop-cancel-init : goal.loop-cancel-init
loop-cancel-init c = (search rules, wrote_none _ _ (omega arith), refl)

pub loop-cancel-preserved : goal.loop-cancel-preserved
loop-cancel-preserved c =
    let put-cancel = c.put_cancel-o in
    let x = c.args in
    let l = c.loop-cancel in
    let turn = row-turn (formats_of x.step.packed) cancel_mails no-cancel x.cancels l.cancel-index (omega arith) x.s (omega arith) l.invariant.1 (told _ _ _ put-cancel.ensures) in
    (search rules, turn, omega (arith, put-cancel.auto, l.invariant.2))

pub shape_of-out : goal.shape_of-out
shape_of-out c = c.loop-cancel.invariant.2

pub returns : goal.returns
returns c =
    let x = c.args in
    let l = c.loop-cancel in
    tells (wrote (ap (joined (section (formats_of x.step.packed) x.s)) (joined-all cancel_mails x.cancels l.cancel-index (omega arith))) l.invariant.1)
