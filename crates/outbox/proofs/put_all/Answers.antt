use mathlib.Core.List.{◌++◌}
use mathlib.Core.Path.{sym, ap, ◌∙◌}
use Prim.Native.Nat.{◌≤◌}
use lib.ListN.{length}
use native.Mathlib.Omega.{arith}
use Rattle.seq.specs.Lists.{joined}
use Rattle.seq.proofs.Joined.{joined-append}
use Rattle.buffer.specs.Capped.{largest}
use Rattle.buffer.proofs.Wrote.{told, tells, wrote-both}
use Rattle.conversion.specs.Sources.{sources}
use Rattle.outgoing.specs.Layout.{formats_of}
use Rattle.outbox.specs.Meaning.{own_mails, cancel_mails, event_mails}
use Rattle.outbox.specs.Emit.{section}
use Rattle.outbox.proofs.Facts.{in-order}
use Rattle.outbox.proofs.put_all.Goals as goal

pub shape_of-out : goal.shape_of-out
shape_of-out c =
    let put-own = c.put_own-a in
    let put-cancels = c.put_cancels-b in
    omega (arith, put-own.auto, put-cancels.auto, c.put_events.auto)

pub returns : goal.returns
returns c =
    let x = c.args in
    let f : length x.out.now ≤ largest = omega (arith, c.well_formed.1.1.1.0) in
    let fs = formats_of x.step.packed in
    let m = sources x.step.from x.step.message.now x.step.converted.now x.step.text.now in
    let b = x.outbox in
    let own = own_mails fs m b.own in
    let cs = joined cancel_mails b.cancels in
    let es = joined (event_mails fs m b.publication b.payload b.other) b.events in
    let put-own = c.put_own-a in
    let put-cancels = c.put_cancels-b in
    let put-events = c.put_events in
    let order = ap (joined (section fs x.s)) (sym (in-order fs m b)) in
    tells
    (wrote-both (sym (joined-append (section fs x.s) own (cs ++ es)) ∙ order) f (told _ _ _ put-own.ensures)
    (wrote-both (sym (joined-append (section fs x.s) cs es)) (omega (arith, put-own.auto))
    (told _ _ _ put-cancels.ensures) (told _ _ _ put-events.ensures)))
