use Rattle.packing.proofs.Laws.{wide-none, wide-more}
use Rattle.buffer.proofs.Wrote.{told, tells, wrote, wrote-both, wrote_none}
use native.Mathlib.Omega.{arith}
use Rattle.packing.proofs.+put_wide.Goals as goal

pub returns-then-width-eq0 : goal.returns-then-width-eq0
returns-then-width-eq0 t c = tells (wrote (wide-none _ _ c.if-width-eq0.true) (wrote_none _ _ (omega arith)))

pub returns-else-width-eq0 : goal.returns-else-width-eq0
returns-else-width-eq0 t c =
    tells
    (wrote-both (wide-more _ _ _ c.if-width-eq0.false c.low_byte.ensures) (omega arith) (told _ _ _ c.put_wide-p.ensures)
    (told _ _ _ c.put_byte.ensures))
