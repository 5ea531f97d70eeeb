use native.Mathlib.Omega.{arith}
use Rattle.buffer.proofs.Wrote.{told, tells, wrote, wrote_none}
use Rattle.quoting.proofs.Laws.{comma-yes, comma-no}
use Rattle.quoting.proofs.put_comma.Goals as goal

pub returns-then-more : goal.returns-then-more
returns-then-more c =
    tells (wrote (comma-yes _ c.if-more.true) (told _ _ _ c.put_byte.ensures))

pub returns-else-more : goal.returns-else-more
returns-else-more c =
    tells (wrote (comma-no _ c.if-more.false) (wrote_none _ _ (omega arith)))
