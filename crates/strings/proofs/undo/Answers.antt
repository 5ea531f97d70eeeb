use mathlib.Core.Path.{sym, ap, ◌∙◌}
use Rattle.strings.specs.Places.{kept}
use Rattle.strings.proofs.Plain.{plain}
use Rattle.strings.proofs.undo.Goals as goal

pub returns-then-is_plain : goal.returns-then-is_plain
returns-then-is_plain c = ap kept (sym (plain c.args.t.now (sym c.is_plain.ensures ∙ c.if-is_plain.true)))
