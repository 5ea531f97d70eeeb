use mathlib.Core.Path.{sym, ap, ◌∙◌}
use native.Mathlib.Omega.{arith}
use Rattle.seq.specs.Lists.{joined}
use Rattle.buffer.proofs.Wrote.{told, tells, wrote, wrote_none}
use Rattle.conversion.specs.Sources.{sources}
use Rattle.outgoing.specs.Layout.{formats_of}
use Rattle.sections.proofs.Sections.{same-is, same_taken, same_left}
use Rattle.outbox.specs.Emit.{section}
use Rattle.outbox.proofs.Mails.{own-silent, own-wrote}
use Rattle.outbox.proofs.put_own.Goals as goal

pub returns-then-eq : goal.returns-then-eq
returns-then-eq c =
    let x = c.args in
    let fs = formats_of x.step.packed in
    let m = sources x.step.from x.step.message.now x.step.converted.now x.step.text.now in
    let own = c.in-Some in
    let format-at = c.format_at-format in
    let test = sym (same-is _ _ c.eq.ensures) ∙ c.if-eq.true in
    let from = same_taken x.step.message.now x.step.converted.now x.step.from format-at.result test in
    tells (own-wrote fs m _ _ own.is _ format-at.ensures _ x.s (told _ _ _ c.put_reply.ensures) from)

pub returns-in-None : goal.returns-in-None
returns-in-None c =
    let x = c.args in
    let fs = formats_of x.step.packed in
    let m = sources x.step.from x.step.message.now x.step.converted.now x.step.text.now in
    let none = ap (joined (section fs x.s)) (own-silent fs m _ c.in-None.is) in
    tells (wrote none (wrote_none _ _ (omega arith)))

pub returns-else-eq : goal.returns-else-eq
returns-else-eq c =
    let x = c.args in
    let fs = formats_of x.step.packed in
    let m = sources x.step.from x.step.message.now x.step.converted.now x.step.text.now in
    let own = c.in-Some in
    let format-at = c.format_at-format in
    let test = sym (same-is _ _ c.eq.ensures) ∙ c.if-eq.false in
    let from = same_left x.step.message.now x.step.converted.now x.step.from format-at.result test in
    tells (own-wrote fs m _ _ own.is _ format-at.ensures _ x.s (told _ _ _ c.put_reply-in-Some.ensures) from)
