use mathlib.Core.Path.{sym}
use native.Mathlib.Omega.{arith}
use Rattle.buffer.proofs.Sums.{capped_is}
use Rattle.buffer.proofs.Over.{over-past, over-store}
use Rattle.buffer.proofs.put_byte.Goals as goal

pub returns-then-out-at : goal.returns-then-out-at
returns-then-out-at c = record {
  place = c.plus.ensures;
  bytes = sym (over-past _ _ _ c.if-out-at.true);
}

pub returns : goal.returns
returns c = record {
  place = capped_is _ (omega (arith, c.if-out-at.false));
  bytes = over-store _ _ _ (omega (arith, c.if-out-at.false));
}
