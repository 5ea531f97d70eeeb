use mathlib.Core.Path.{sym, ◌∙◌}
use borrow.Author.Tests.{eq-eqb, ne_eqb, not-true, not-false}
use Rattle.model.specs.Rules.{zero_row}
use Rattle.rules.proofs.zero_row.Goals as goal

pub returns-then-row-ne0 : goal.returns-then-row-ne0
unfolding zero_row
returns-then-row-ne0 c = rw (ne_eqb _ _ c.if-row-ne0.true)

pub returns-then-policy_number-ne0 : goal.returns-then-policy_number-ne0
unfolding zero_row
returns-then-policy_number-ne0 c =
    let if1 = c.if-row-ne0 in
    rw (eq-eqb _ _ if1.false, ne_eqb _ _ (λ e. c.if-policy_number-ne0.true (c.policy_number.ensures ∙ e)))

pub returns-then-not-nobody : goal.returns-then-not-nobody
unfolding zero_row
returns-then-not-nobody c =
    let if1 = c.if-row-ne0 in
    let policy-number = c.policy_number in
    let if2 = c.if-policy_number-ne0 in
    rw (
      eq-eqb _ _ if1.false,
      eq-eqb _ _ (sym policy-number.ensures ∙ if2.false),
      sym c.nobody.ensures ∙ not-true _
          c.if-not-nobody.true-raw,
    )

pub returns-then-row-ne0-2 : goal.returns-then-row-ne0-2
unfolding zero_row
returns-then-row-ne0-2 c =
    let if1 = c.if-row-ne0 in
    let policy-number = c.policy_number in
    let if2 = c.if-policy_number-ne0 in
    let nobody = c.nobody in
    let if3 = c.if-not-nobody in
    rw (
      eq-eqb _ _ if1.false,
      eq-eqb _ _ (sym policy-number.ensures ∙ if2.false),
      sym nobody.ensures ∙ not-false _
          if3.false-raw,
      ne_eqb _ _ c.if-row-ne0-2.true,
    )

pub returns : goal.returns
unfolding zero_row
returns c =
    let if1 = c.if-row-ne0 in
    let policy-number = c.policy_number in
    let if2 = c.if-policy_number-ne0 in
    let nobody = c.nobody in
    let if3 = c.if-not-nobody in
    let if4 = c.if-row-ne0-2 in
    rw (
      eq-eqb _ _ if1.false,
      eq-eqb _ _ (sym policy-number.ensures ∙ if2.false),
      sym nobody.ensures ∙ not-false _
          if3.false-raw,
      eq-eqb _ _ if4.false,
    ) c.all_zero.ensures
