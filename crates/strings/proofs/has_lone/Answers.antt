use mathlib.Core.Path.{sym, ◌∙◌}
use Rattle.strings.proofs.Plain.{plain-lone}
use Rattle.strings.proofs.has_lone.Goals as goal

pub returns-then-is_plain : goal.returns-then-is_plain
returns-then-is_plain c = sym (plain-lone _ (sym c.is_plain.ensures ∙ c.if-is_plain.true))
