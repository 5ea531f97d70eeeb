use mathlib.Core.Path.{sym, ◌∙◌}
use Rattle.utf8.proofs.Laws.{step-lead, step-low, step-high, step-tail}
use Rattle.utf8.proofs.step.Goals as goal

pub returns-then-w-eq0 : goal.returns-then-w-eq0
returns-then-w-eq0 c = c.lead.ensures ∙ sym (step-lead c.args.w c.args.b c.if-w-eq0.true)

pub returns-then-b-w : goal.returns-then-b-w
returns-then-b-w c =
    let args = c.args in
    sym (step-low args.w args.b c.if-w-eq0.false c.if-b-w.true)

pub returns-then-w-b : goal.returns-then-w-b
returns-then-w-b c =
    let if1 = c.if-w-eq0 in
    let args = c.args in
    sym (step-high args.w args.b if1.false c.if-b-w.false c.if-w-b.true)

pub returns : goal.returns
returns c =
    let if1 = c.if-w-eq0 in
    let args = c.args in
    sym (step-tail args.w args.b if1.false c.if-b-w.false c.if-w-b.false)
