use mathlib.Core.Path.{sym, ◌∙◌}
use Rattle.model.specs.Step.{on_open}
use Rattle.serve.proofs.on_error.Goals as goal

pub returns-then-not-valid_error : goal.returns-then-not-valid_error
unfolding on_open
returns-then-not-valid_error c = λ n e. rw (sym c.valid_error.ensures ∙ c.if-not-valid_error.true) (c.violates.ensures _ _)

pub returns : goal.returns
unfolding on_open
returns c = λ n e. rw (sym c.valid_error.ensures ∙ c.if-not-valid_error.false) (c.answers.ensures _ e)
