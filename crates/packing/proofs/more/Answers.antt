use Rattle.packing.proofs.Laws.{long-1, long-3, long-5}
use native.Mathlib.Omega.{arith}
use Rattle.packing.proofs.more.Goals as goal

pub returns-then-n-lt16 : goal.returns-then-n-lt16
returns-then-n-lt16 c = let l = long-1 _ c.if-n-lt16.true in record { means = omega (arith, l.arrays); maps = omega (arith, l.maps); small = omega arith }

pub returns-then-n-lt65536 : goal.returns-then-n-lt65536
returns-then-n-lt65536 c = let l = long-3 _ c.if-n-lt16.false c.if-n-lt65536.true in record { means = omega (arith, l.arrays); maps = omega (arith, l.maps); small = omega arith }

pub returns : goal.returns
returns c = let l = long-5 _ c.if-n-lt65536.false in record { means = omega (arith, l.arrays); maps = omega (arith, l.maps); small = omega arith }
