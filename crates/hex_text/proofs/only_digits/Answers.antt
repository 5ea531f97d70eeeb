use mathlib.Core.Path.{sym, ◌∙◌}
use native.Mathlib.Omega.{arith}
use Rattle.seq.proofs.Lists.{every-end}
use Rattle.hex_text.specs.Hex.{is_hex}
use Rattle.hex_text.proofs.Laws.{digits-fail, digits-pass}
use Rattle.hex_text.proofs.only_digits.Goals as goal

pub returns-then-digit-gt15 : goal.returns-then-digit-gt15
returns-then-digit-gt15 c =
    let loop = c.loop-b in
    let args = c.args in
    sym (loop.invariant ∙ digits-fail args.s.now loop.b-index _ (omega arith) c.digit.ensures c.if-digit-gt15.true)

pub loop-b-preserved : goal.loop-b-preserved
loop-b-preserved c =
    let loop = c.loop-b in
    let args = c.args in
    (loop.invariant ∙ digits-pass args.s.now loop.b-index _ (omega arith) c.digit.ensures c.if-digit-gt15.false)

pub returns : goal.returns
returns c =
    let loop = c.loop-b in
    let args = c.args in
    sym (loop.invariant ∙ every-end is_hex args.s.now loop.b-index (omega arith))
