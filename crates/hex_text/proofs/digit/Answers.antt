use mathlib.Core.Path.{sym}
use native.Mathlib.Omega.{arith}
use Rattle.hex_text.proofs.Laws.{value-below, value-digit, value-between, value-capital, value_after, value-letter, value-above}
use Rattle.hex_text.proofs.digit.Goals as goal

pub returns-then-b-lt48 : goal.returns-then-b-lt48
returns-then-b-lt48 c = sym (value-below _ c.if-b-lt48.true)

pub returns-then-b-le57 : goal.returns-then-b-le57
returns-then-b-le57 c = sym (value-digit _ (omega arith) (omega arith))

pub returns-then-b-lt65 : goal.returns-then-b-lt65
returns-then-b-lt65 c = sym (value-between _ (omega arith) (omega arith) c.if-b-lt65.true)

pub overflow_sub-result-then-b-le70 : goal.overflow_sub-result-then-b-le70
overflow_sub-result-then-b-le70 c = omega arith

pub returns-then-b-le70 : goal.returns-then-b-le70
returns-then-b-le70 c = sym (value-capital _ (omega arith) (omega arith) (omega arith) (omega arith))

pub returns-then-b-lt97 : goal.returns-then-b-lt97
returns-then-b-lt97 c = sym (value_after _ (omega arith) (omega arith) (omega arith) (omega arith) c.if-b-lt97.true)

pub overflow_sub-result-then-b-le102 : goal.overflow_sub-result-then-b-le102
overflow_sub-result-then-b-le102 c = omega arith

pub returns-then-b-le102 : goal.returns-then-b-le102
returns-then-b-le102 c = sym (value-letter _ (omega arith) (omega arith) (omega arith) (omega arith) (omega arith) (omega arith))

pub returns : goal.returns
returns c = sym (value-above _ (omega arith) (omega arith) (omega arith) (omega arith) (omega arith) c.if-b-le102.false)
