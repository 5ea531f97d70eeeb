use mathlib.Core.Path.{sym, ◌∙◌}
use native.Mathlib.Omega.{arith}
use Rattle.hub.proofs.Laws.{in-range, range-above}
use Rattle.hub.proofs.bad_number.Goals as goal

pub returns-then-number-gt-LAST_ID : goal.returns-then-number-gt-LAST_ID
returns-then-number-gt-LAST_ID c = rw (range-above _ c.if-number-gt-LAST_ID.true)

-- that the number is not 0 is left to `omega`, so that an edit of that test is refused for what it says
pub returns-then-accepts : goal.returns-then-accepts
returns-then-accepts c =
    rw (in-range c.args.number (λ e. omega arith) (omega arith), sym c.accepts.ensures ∙ c.if-accepts.true, c.is_fresh.ensures)

pub returns : goal.returns
returns c = rw (in-range c.args.number (λ e. omega arith) (omega arith), sym c.accepts.ensures ∙ c.if-accepts.false)
