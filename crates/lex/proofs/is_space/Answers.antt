use mathlib.Core.Path.{sym}
use Rattle.lex.proofs.Laws.{space-last}
use Rattle.lex.proofs.is_space.Goals as goal

pub returns-then-b-eq32 : goal.returns-then-b-eq32
returns-then-b-eq32 c = simp c.if-b-eq32.true

pub returns-then-b-eq9 : goal.returns-then-b-eq9
returns-then-b-eq9 c = simp c.if-b-eq9.true

pub returns-then-b-eq10 : goal.returns-then-b-eq10
returns-then-b-eq10 c = simp c.if-b-eq10.true

pub returns : goal.returns
returns c = sym (space-last _ c.if-b-eq32.false c.if-b-eq9.false c.if-b-eq10.false)
