use mathlib.Core.Path.{sym}
use Prim.Native.Nat.{◌/◌}
use native.Mathlib.Omega.{arith}
use Rattle.seq.proofs.Digits.{length-decimal, length-small, length_more}
use Rattle.pieces.proofs.+number_len.Goals as goal

pub overflow_add-result : goal.overflow_add-result
overflow_add-result t c = omega (arith, c.number_len.ensures, length-decimal (c.args.n / 10))

pub returns-then-n-lt10 : goal.returns-then-n-lt10
returns-then-n-lt10 t c = sym (length-small _ c.if-n-lt10.true)

pub returns-else-n-lt10 : goal.returns-else-n-lt10
returns-else-n-lt10 t c = omega (arith, c.number_len.ensures, length_more c.args.n c.ranges.n.fits c.if-n-lt10.false)
