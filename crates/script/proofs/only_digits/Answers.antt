use mathlib.Core.Path.{sym, ◌∙◌}
use native.Mathlib.Omega.{arith}
use Rattle.seq.proofs.Lists.{every-fail, every-pass, every-end}
use Rattle.seq.specs.Bytes.{is_digit}
use Rattle.script.proofs.only_digits.Goals as goal

pub returns-then-not-is_digit : goal.returns-then-not-is_digit
returns-then-not-is_digit c =
    let loop = c.loop-b in
    let other = sym c.is_digit.ensures ∙ c.if-not-is_digit.true in
    sym (loop.invariant ∙ every-fail is_digit c.args.word.now loop.b-index 0 (omega arith) other)

pub loop-b-preserved : goal.loop-b-preserved
loop-b-preserved c =
    let loop = c.loop-b in
    let here = sym c.is_digit.ensures ∙ c.if-not-is_digit.false in
    loop.invariant ∙ every-pass is_digit c.args.word.now loop.b-index 0 (omega arith) here

pub returns : goal.returns
returns c =
    let loop = c.loop-b in
    sym (loop.invariant ∙ every-end is_digit c.args.word.now loop.b-index (omega arith))
