use mathlib.Core.Path.{sym}
use Rattle.seq.proofs.Bytes.{digit-below, digit-from}
use Rattle.seq.proofs.is_digit.Goals as goal

pub returns-then-b-lt48 : goal.returns-then-b-lt48
returns-then-b-lt48 c = sym (digit-below _ c.if-b-lt48.true)

pub returns : goal.returns
returns c = sym (digit-from _ c.if-b-lt48.false)
