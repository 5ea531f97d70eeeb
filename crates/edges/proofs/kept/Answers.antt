use mathlib.Core.Path.{sym, ◌∙◌}
use borrow.Author.Tests.{eq-eqb, ne_eqb}
use native.Mathlib.Omega.{arith}
use Rattle.seq.proofs.Lists.{every-fail, every-pass, every-end}
use Rattle.edges.specs.Told.{unwritten}
use Rattle.edges.proofs.kept.Goals as goal

pub returns-then-out-i : goal.returns-then-out-i
returns-then-out-i c =
    let l = c.loop-i in
    sym (l.invariant ∙ every-fail _ _ l.i 0 (omega arith) (ne_eqb unwritten _ (λ e. c.if-out-i.true (sym e))))

pub loop-i-preserved : goal.loop-i-preserved
loop-i-preserved c =
    let l = c.loop-i in
    l.invariant ∙ every-pass _ _ l.i 0 (omega arith) (eq-eqb unwritten _ (sym c.if-out-i.false))

pub returns : goal.returns
returns c = sym (c.loop-i.invariant ∙ every-end _ _ c.loop-i.i (omega arith))
