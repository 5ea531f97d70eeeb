use mathlib.Core.Path.{refl, sym, ap, ◌∙◌}
use native.Mathlib.Omega.{arith}
use Rattle.strings.specs.Strings.{escape}
use Rattle.strings.proofs.Places.{part-rest, lone-half, lone-past, lone-at, lone-end}
use Rattle.strings.proofs.lone_among.Goals as goal

pub loop-i-init : goal.loop-i-init
loop-i-init c = (refl, omega arith)

pub returns-then-is_half : goal.returns-then-is_half
returns-then-is_half c =
    let args = c.args in
    let loop = c.loop-i in
    let if1 = c.if-t-i-eq92 in
    let t = args.t.now in
    let i = loop.i in
    let e = c.escape-e.ensures.means ∙ ap escape (c.text.ensures ∙ part-rest t i) in
    sym (loop.invariant.0 ∙ lone-half t i (omega arith) if1.true _ e (sym c.is_half.ensures ∙ c.if-is_half.true))

pub loop-i-preserved-then-t-i-eq92 : goal.loop-i-preserved-then-t-i-eq92
loop-i-preserved-then-t-i-eq92 c =
    let args = c.args in
    let loop = c.loop-i in
    let if1 = c.if-t-i-eq92 in
    let text = c.text in
    let t = args.t.now in
    let i = loop.i in
    let e = c.escape-e.ensures.means ∙ ap escape (text.ensures ∙ part-rest t i) in
    let whole = sym c.is_half.ensures ∙ c.if-is_half.false in
    (loop.invariant.0 ∙ lone-past t i (omega arith) if1.true _ e whole _ c.onward-i.ensures, omega arith)

pub loop-i-preserved : goal.loop-i-preserved
loop-i-preserved c =
    let args = c.args in
    let loop = c.loop-i in
    (loop.invariant.0 ∙ lone-at args.t.now loop.i (omega arith) c.if-t-i-eq92.false, omega arith)

pub returns : goal.returns
returns c = sym (c.loop-i.invariant.0 ∙ lone-end c.args.t.now c.loop-i.i (omega arith))
