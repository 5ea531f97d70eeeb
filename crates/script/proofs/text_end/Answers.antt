use mathlib.Core.Path.{sym}
use Rattle.script.proofs.Laws.{end_none, end-return, end-plain}
use Rattle.script.proofs.text_end.Goals as goal

pub returns-then-line-eq0 : goal.returns-then-line-eq0
returns-then-line-eq0 c = sym (end_none c.args.line.now c.if-line-eq0.true)

pub returns-then-byte-eq13 : goal.returns-then-byte-eq13
returns-then-byte-eq13 c = sym (end-return c.args.line.now _ c.byte.ensures c.if-byte-eq13.true)

pub returns-else-byte-eq13 : goal.returns-else-byte-eq13
returns-else-byte-eq13 c = sym (end-plain c.args.line.now _ c.byte.ensures c.if-byte-eq13.false)
