use mathlib.Core.Path.{sym, ◌∙◌}
use Rattle.hex_text.proofs.Laws.{whole-odd, whole-even}
use Rattle.hex_text.proofs.is_whole.Goals as goal

pub returns-then-s-ne0 : goal.returns-then-s-ne0
returns-then-s-ne0 c = sym (whole-odd c.args.s.now c.if-s-ne0.true)

pub returns : goal.returns
returns c = c.only_digits.ensures ∙ sym (whole-even c.args.s.now c.if-s-ne0.false)
