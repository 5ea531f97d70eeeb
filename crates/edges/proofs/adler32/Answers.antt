use mathlib.Core.Path.{sym, ◌∙◌}
use native.Mathlib.Omega.{arith}
use Rattle.edges.proofs.Laws.{adler-more, adler-end}
use Rattle.edges.proofs.adler32.Goals as goal

pub loop-x-preserved : goal.loop-x-preserved
loop-x-preserved c =
    let l = c.loop-x in
    let s = c.args.s.now in (
      l.invariant.0 ∙ rw c.wide.ensures (adler-more s l.a l.b l.x-index (omega arith)),
      omega arith,
      omega arith,
    )

pub returns : goal.returns
returns c =
    let l = c.loop-x in
    sym (l.invariant.0 ∙ adler-end _ l.a l.b l.x-index (omega arith))
