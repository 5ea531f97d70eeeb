use mathlib.Core.Path.{sym, ◌∙◌}
use Rattle.settings.proofs.decides.Goals as goal

pub returns-then-not-rule_fits : goal.returns-then-not-rule_fits
returns-then-not-rule_fits c = rw (sym c.rule_fits.ensures ∙ c.if-not-rule_fits.true)

pub returns : goal.returns
returns c = rw (sym c.rule_fits.ensures ∙ c.if-not-rule_fits.false, c.prefix.ensures)
