use mathlib.Core.Path.{sym, ◌∙◌}
use borrow.Author.Tests.{eq-eqb, ne_eqb}
use Rattle.model.specs.State.{left}
use Rattle.state.proofs.left.Goals as goal

pub returns-then-not-holds : goal.returns-then-not-holds
unfolding left
returns-then-not-holds c = rw (sym c.holds.ensures ∙ c.if-not-holds.true)

pub returns-then-count-eq-LAST_ONE : goal.returns-then-count-eq-LAST_ONE
unfolding left
returns-then-count-eq-LAST_ONE c = rw (sym c.holds.ensures ∙ c.if-not-holds.false, eq-eqb _ 1 (sym c.count.ensures ∙ c.if-count-eq-LAST_ONE.true)) c.no_row.ensures

pub returns : goal.returns
unfolding left
returns c =
    rw (
      sym c.holds.ensures ∙ c.if-not-holds.false,
      ne_eqb _ _ (λ e. c.if-count-eq-LAST_ONE.false (c.count.ensures ∙ e)),
      c.with_holders.ensures,
      c.with_flag-fewer.ensures,
    )
