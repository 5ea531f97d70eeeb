use mathlib.Core.Path.{sym}
use borrow.Author.Tests.{eq-eqb, ne_eqb}
use Rattle.model.specs.State.{idle}
use Rattle.model.specs.Rules.{calls_apart}
use Rattle.rules.proofs.Laws.{first_way, second_way, both-ne, left-ne}
use Rattle.rules.proofs.calls_apart.Goals.{then-a-b+else-a-b-2, else-a-b}
use Rattle.rules.proofs.calls_apart.Goals as goal

pub returns-then-a-eq0 : goal.returns-then-a-eq0
unfolding calls_apart idle
returns-then-a-eq0 c = rw (eq-eqb _ _ c.if-a-eq0.true)

pub returns-then-b-eq0 : goal.returns-then-b-eq0
unfolding calls_apart idle
returns-then-b-eq0 c = rw (ne_eqb _ _ c.if-a-eq0.false, eq-eqb _ _ c.if-b-eq0.true)

pub returns-then-a-b-2 : goal.returns-then-a-b-2
unfolding idle
returns-then-a-b-2 c =
    let args = c.args in
    let if1 = c.if-a-eq0 in
    let if2 = c.if-b-eq0 in
    let if3 = c.if-a-b in
    sym (first_way args.a args.b (ne_eqb _ _ if1.false) (ne_eqb _ _ if2.false) if3.true c.if-a-b-2.true)

pub returns-then-a-b-3 : goal.returns-then-a-b-3
unfolding idle
returns-then-a-b-3 c =
    let args = c.args in
    let if1 = c.if-a-eq0 in
    let if2 = c.if-b-eq0 in
    let if3 = c.if-a-b in
    let if5 = c.if-a-b-3 in
    let e = second_way args.a args.b (ne_eqb _ _ if1.false) (ne_eqb _ _ if2.false)
    (elim if3.branch [
      | then-a-b+else-a-b-2 w ↦ both-ne args.a.caller args.b.caller args.a.request args.b.request w.if-a-b-2.false
      | else-a-b w ↦ left-ne args.a.caller args.b.caller args.a.request args.b.request w.if-a-b.false
    ]) in
    rw (e, eq-eqb _ _ if5.true)

pub returns : goal.returns
unfolding idle
returns c =
    let args = c.args in
    let if1 = c.if-a-eq0 in
    let if2 = c.if-b-eq0 in
    let if3 = c.if-a-b in
    let e = second_way args.a args.b (ne_eqb _ _ if1.false) (ne_eqb _ _ if2.false)
    (elim if3.branch [
      | then-a-b+else-a-b-2 w ↦ both-ne args.a.caller args.b.caller args.a.request args.b.request w.if-a-b-2.false
      | else-a-b w ↦ left-ne args.a.caller args.b.caller args.a.request args.b.request w.if-a-b.false
    ]) in
    rw (e, ne_eqb _ _ c.if-a-b-3.false)
