use mathlib.Core.Path.{sym, ap, ◌∙◌}
use native.Mathlib.Omega.{arith}
use lib.ListN.{length}
use Rattle.conversion.specs.Sources.{sources}
use Rattle.outgoing.specs.Layout.{formats_of}
use Rattle.sections.specs.Sections.{outcome_bytes}
use Rattle.sections.proofs.Sections.{same-is, same_taken, same_left}
use Rattle.outbox.specs.Emit.{answer}
use Rattle.outbox.proofs.Mails.{answer-capped, own-nothing, own-output}
use Rattle.outbox.proofs.emit_own.Goals as goal

pub returns-then-eq : goal.returns-then-eq
returns-then-eq c =
    let x = c.args in
    let fs = formats_of x.packed in
    let m = sources x.from x.message.now x.converted.now x.text.now in
    let room = c.well_formed.1.1.1.1.1.1.0 in
    let old = x.out.now in
    let own = c.in-Some in
    let format-at = c.format_at-format in
    let put_alone = c.put_alone-size in
    let test = sym (same-is _ _ c.eq.ensures) ∙ c.if-eq.true in
    let from = same_taken x.message.now x.converted.now x.from format-at.result test in
    let e = own-output fs m x.own _ own.is _ format-at.ensures x.message.now from in record {
      answer = c.answered-then-eq.ensures ∙ ap (λ k. answer k (length old)) put_alone.ensures.size ∙ answer-capped _ (length old) (omega (arith, room))
          ∙ ap (λ l. answer (length l) (length old)) e;
      bytes = put_alone.ensures.bytes ∙ ap (λ l. outcome_bytes l old) e;
    }

pub returns-in-None : goal.returns-in-None
returns-in-None c =
    let x = c.args in
    let fs = formats_of x.packed in
    let m = sources x.from x.message.now x.converted.now x.text.now in
    let old = x.out.now in
    let put-nothing = c.put_nothing in
    let e = own-nothing fs m x.own c.in-None.is in record {
      answer = c.answered.ensures ∙ ap (λ k. answer k (length old)) (put-nothing.ensures.size ∙ ap length e);
      bytes = put-nothing.ensures.bytes ∙ ap (λ l. outcome_bytes l old) e;
    }

pub returns-else-eq : goal.returns-else-eq
returns-else-eq c =
    let x = c.args in
    let fs = formats_of x.packed in
    let m = sources x.from x.message.now x.converted.now x.text.now in
    let room = c.well_formed.1.1.1.1.1.1.0 in
    let old = x.out.now in
    let own = c.in-Some in
    let format-at = c.format_at-format in
    let put-alone2 = c.put_alone-size-in-Some in
    let test = sym (same-is _ _ c.eq.ensures) ∙ c.if-eq.false in
    let from = same_left x.message.now x.converted.now x.from format-at.result test in
    let e = own-output fs m x.own _ own.is _ format-at.ensures x.converted.now from in record {
      answer = c.answered-in-Some.ensures ∙ ap (λ k. answer k (length old)) put-alone2.ensures.size ∙ answer-capped _ (length old) (omega (arith, room))
          ∙ ap (λ l. answer (length l) (length old)) e;
      bytes = put-alone2.ensures.bytes ∙ ap (λ l. outcome_bytes l old) e;
    }
