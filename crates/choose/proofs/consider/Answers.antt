use mathlib.Core.Path.{sym, ◌∙◌}
use Rattle.pattern.specs.Choice.{considered, preferred}
use Rattle.choose.proofs.consider.Goals as goal

pub returns-then-not-is_candidate : goal.returns-then-not-is_candidate
unfolding considered
returns-then-not-is_candidate c = rw (sym c.is_candidate.ensures ∙ c.if-not-is_candidate.true)

pub returns-in_default : goal.returns-in_default
unfolding considered preferred
returns-in_default c =
    let is-candidate = c.is_candidate in
    let if1 = c.if-not-is_candidate in
    rw (sym is-candidate.ensures ∙ if1.false, c.in_default.is)

pub returns-then-row_wins : goal.returns-then-row_wins
unfolding considered preferred
returns-then-row_wins c =
    let is-candidate = c.is_candidate in
    let if1 = c.if-not-is_candidate in
    let best = c.in-Some in
    rw (sym is-candidate.ensures ∙ if1.false, best.is, sym c.row_wins.ensures ∙ c.if-row_wins.true)

pub returns : goal.returns
unfolding considered preferred
returns c =
    let is-candidate = c.is_candidate in
    let if1 = c.if-not-is_candidate in
    let best = c.in-Some in
    rw (sym is-candidate.ensures ∙ if1.false, best.is, sym c.row_wins.ensures ∙ c.if-row_wins.false)
