use mathlib.Core.Path.{refl, sym, ◌∙◌}
use native.Mathlib.Omega.{arith}
use Rattle.quoting.proofs.Laws.{bare-turn, bare-end}
use Rattle.quoting.proofs.is_bare.Goals as goal

pub loop-b-init : goal.loop-b-init
loop-b-init c = refl

pub loop-b-preserved : goal.loop-b-preserved
loop-b-preserved c =
    let loop = c.loop-b in
    loop.invariant ∙ bare-turn c.args.t.now loop.b-index loop.bare (omega arith) c.is_escaped.result c.is_escaped.ensures

pub returns : goal.returns
returns c =
    let loop = c.loop-b in
    sym (loop.invariant ∙ bare-end c.args.t.now loop.b-index loop.bare (omega arith))
