use mathlib.Core.Path.{sym, ◌∙◌}
use Rattle.uri.specs.Uri.{valid_published}
use Rattle.uri.proofs.valid_published.Goals as goal

pub returns-then-not-valid : goal.returns-then-not-valid
unfolding valid_published
returns-then-not-valid c = rw (sym c.valid.ensures ∙ c.if-not-valid.true)

pub returns : goal.returns
unfolding valid_published
returns c = rw (sym c.valid.ensures ∙ c.if-not-valid.false, c.is_reserved.ensures)
