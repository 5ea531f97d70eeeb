use mathlib.Core.Path.{ap₂, ◌∙◌}
use borrow.Author.Tests.{eq-eqb, ne_eqb}
use Rattle.model.specs.State.{idle}
use Rattle.rules.specs.ByTable.{joins, call_lawful}
use Rattle.rules.proofs.call_lawful.Goals as goal

pub returns-then-call-eq0 : goal.returns-then-call-eq0
unfolding call_lawful idle
returns-then-call-eq0 c = rw (eq-eqb _ _ c.if-call-eq0.true) c.zero_call.ensures

pub returns : goal.returns
unfolding call_lawful idle
returns c =
    let args = c.args in
    let if1 = c.if-call-eq0 in
    let session-at = c.session_at-caller in
    rw (ne_eqb _ _ if1.false)
    (c.call_joins.ensures ∙ ap₂ (λ p q. joins p q args.call) session-at.ensures c.session_at-callee.ensures)
