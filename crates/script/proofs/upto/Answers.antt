use mathlib.Core.Path.{◌≡◌, refl, sym, ◌∙◌}
use native.Mathlib.Omega.{arith}
use Rattle.script.proofs.Laws.{upto-here, upto-go, upto-end}
use Rattle.script.proofs.upto.Goals as goal

pub loop-i-init : goal.loop-i-init
loop-i-init c = (refl, omega arith)

pub returns-then-s-i : goal.returns-then-s-i
returns-then-s-i c =
    let loop = c.loop-i in
    let args = c.args in record {
      means = sym (upto-here args.b args.s.now loop.i c.if-s-i.true) ∙ loop.invariant.0;
      onward = omega arith;
      within = λ h. omega arith;
    }

pub loop-i-preserved : goal.loop-i-preserved
loop-i-preserved c =
    let loop = c.loop-i in
    let args = c.args in
    (sym (upto-go args.b args.s.now loop.i (omega arith) c.if-s-i.false) ∙ loop.invariant.0, omega arith)

pub returns : goal.returns
returns c =
    let loop = c.loop-i in
    let args = c.args in
    let e : c.max.result ≡ loop.i = omega (arith, c.max.ensures) in record {
      means = e ∙ sym (upto-end args.b args.s.now loop.i (omega arith)) ∙ loop.invariant.0;
      onward = omega arith;
      within = λ h. omega arith;
    }
