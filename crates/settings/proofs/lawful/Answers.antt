use mathlib.Core.Path.{sym, ◌∙◌}
use Rattle.settings.specs.Lent.{lawful}
use Rattle.settings.proofs.lawful.Goals as goal

pub returns-then-not-is_formed : goal.returns-then-not-is_formed
unfolding lawful
returns-then-not-is_formed c = rw (sym c.is_formed.ensures ∙ c.if-not-is_formed.true)

pub returns : goal.returns
unfolding lawful
returns c = rw (sym c.is_formed.ensures ∙ c.if-not-is_formed.false) c.keeps_rules.ensures
