use mathlib.Core.Path.{sym, ◌∙◌}
use Rattle.script.proofs.Laws.{hex-is, hex-none}
use Rattle.script.proofs.in_hex.Goals as goal

pub returns-then-is_whole : goal.returns-then-is_whole
returns-then-is_whole c = sym (hex-is c.args.s.now c.args.sent _ c.text.ensures (sym c.is_whole.ensures ∙ c.if-is_whole.true))

pub returns : goal.returns
returns c = sym (hex-none c.args.s.now c.args.sent _ c.text.ensures (sym c.is_whole.ensures ∙ c.if-is_whole.false))
