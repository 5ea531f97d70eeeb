use mathlib.Core.Path.{sym, ◌∙◌}
use Rattle.model.specs.Step.{is_fresh}
use Rattle.state.proofs.is_fresh_to.Goals as goal

pub returns-then-is_open : goal.returns-then-is_open
unfolding is_fresh
returns-then-is_open c = rw (sym c.is_open.ensures ∙ c.if-is_open.true)

pub returns : goal.returns
unfolding is_fresh
returns c = rw (sym c.is_open.ensures ∙ c.if-is_open.false)
