use mathlib.Core.List.{◌++◌}
use mathlib.Core.Path.{refl, sym}
use Rattle.seq.specs.Lists.{joined}
use Rattle.conversion.specs.Sources.{sources}
use Rattle.outgoing.specs.Layout.{formats_of}
use Rattle.outbox.specs.Meaning.{own_mails, cancel_mails, event_mails}
use Rattle.outbox.proofs.Facts.{in-order}
use Rattle.outbox.proofs.Mails.{sized-then}
use Rattle.outbox.proofs.size_all.Goals as goal

pub returns : goal.returns
returns c =
    let x = c.args in
    let fs = formats_of x.step.packed in
    let m = sources x.step.from x.step.message.now x.step.converted.now x.step.text.now in
    let b = x.outbox in
    let own = own_mails fs m b.own in
    let cs = joined cancel_mails b.cancels in
    let es = joined (event_mails fs m b.publication b.payload b.other) b.events in
    let size-own = c.size_own-a in
    let size-cancels = c.size_cancels-b in
    sized-then fs own (cs ++ es) _ (sym (in-order fs m b)) 2 size-own.result c.size_events.result size-own.ensures
    (sized-then fs cs es (cs ++ es) refl size-own.result size-cancels.result c.size_events.result size-cancels.ensures c.size_events.ensures)
