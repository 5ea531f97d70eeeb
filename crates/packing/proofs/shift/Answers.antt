use Rattle.packing.proofs.Moved.{moved-by-none, moved-past, moved_none, moved}
use native.Mathlib.Omega.{arith}
use Rattle.packing.proofs.shift.Goals as goal

pub returns-then-by-eq0 : goal.returns-then-by-eq0
returns-then-by-eq0 c = moved-by-none _ _ _ _ c.if-by-eq0.true

pub returns-then-size-o : goal.returns-then-size-o
returns-then-size-o c = moved-past _ _ _ _ (omega arith)

pub returns-then-size-from : goal.returns-then-size-from
returns-then-size-from c = moved-past _ _ _ _ (omega arith)

pub returns-then-end-from : goal.returns-then-end-from
returns-then-end-from c = moved_none _ _ _ _ _ c.min-end.ensures (omega arith)

pub returns : goal.returns
returns c = moved _ _ _ _ _ _ c.min-end.ensures (omega arith) c.copy_within.ensures.after
