use mathlib.Core.Bool.{not}
use mathlib.Core.Path.{sym, ap, ◌∙◌}
use borrow.Author.Tests.{eq-eqb, ne_eqb}
use Rattle.model.specs.State.{row_at}
use Rattle.model.specs.Rules.{rows_apart}
use Rattle.image.specs.Image.{held, table_in}
use Rattle.rules.proofs.Laws.{marks-differ}
use Rattle.rules.proofs.rows_apart.Goals as goal

pub returns-then-m-eq0 : goal.returns-then-m-eq0
unfolding rows_apart
returns-then-m-eq0 c =
    let pre = c.requires in
    rw (eq-eqb _ _ (sym pre.0.number_is ∙ c.if-m-eq0.true))

pub returns-then-n-eq0 : goal.returns-then-n-eq0
unfolding rows_apart
returns-then-n-eq0 c =
    let pre = c.requires in
    rw (ne_eqb _ _ (λ e. c.if-m-eq0.false (pre.0.number_is ∙ e)), eq-eqb _ _ (sym pre.1.number_is ∙ c.if-n-eq0.true))

pub returns-then-m-n : goal.returns-then-m-n
unfolding rows_apart
returns-then-m-n c =
    let pre = c.requires in
    let if1 = c.if-m-eq0 in
    rw (
      ne_eqb _ _ (λ e. if1.false (pre.0.number_is ∙ e)),
      ne_eqb _ _ (λ e. c.if-n-eq0.false (pre.1.number_is ∙ e)),
      eq-eqb _ _ (sym pre.0.number_is ∙ (c.if-m-n.true ∙ pre.1.number_is)),
    )

pub returns-then-p-q : goal.returns-then-p-q
unfolding rows_apart
returns-then-p-q c =
    let args = c.args in
    let pre = c.requires in
    let if1 = c.if-m-eq0 in
    let if2 = c.if-n-eq0 in
    let t = table_in args.kind (held args.state.now) in
    rw (
      ne_eqb _ _ (λ e. if1.false (pre.0.number_is ∙ e)),
      ne_eqb _ _ (λ e. if2.false (pre.1.number_is ∙ e)),
      ne_eqb _ _ (λ e. c.if-m-n.false (pre.0.number_is ∙ (e ∙ sym pre.1.number_is))),
      marks-differ (row_at t args.i) (row_at t args.j) (λ e. c.if-p-q.true (pre.0.mark-is ∙ (e ∙ sym pre.1.mark-is))),
    )

pub returns : goal.returns
unfolding rows_apart
returns c =
    let pre = c.requires in
    let if1 = c.if-m-eq0 in
    let if2 = c.if-n-eq0 in
    let if3 = c.if-m-n in
    rw (
      ne_eqb _ _ (λ e. if1.false (pre.0.number_is ∙ e)),
      ne_eqb _ _ (λ e. if2.false (pre.1.number_is ∙ e)),
      ne_eqb _ _ (λ e. if3.false (pre.0.number_is ∙ (e ∙ sym pre.1.number_is))),
    )
    (ap not c.same_text.ensures)
