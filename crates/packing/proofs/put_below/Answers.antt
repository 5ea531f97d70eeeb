use Rattle.packing.proofs.Laws.{below-1, below-2, below-3, below-4, below-5}
use mathlib.Core.Path.{refl}
use Rattle.buffer.proofs.Wrote.{told, tells, wrote}
use Rattle.packing.proofs.put_below.Goals as goal

pub returns-then-n-lt32 : goal.returns-then-n-lt32
returns-then-n-lt32 c =
    tells (wrote (below-1 _ _ c.if-n-lt32.true refl) (told _ _ _ c.put_byte.ensures))

pub returns-then-n-lt128 : goal.returns-then-n-lt128
returns-then-n-lt128 c =
    tells (wrote (below-2 _ _ c.if-n-lt32.false c.if-n-lt128.true refl) (told _ _ _ c.put_form.ensures))

pub returns-then-n-lt32768 : goal.returns-then-n-lt32768
returns-then-n-lt32768 c =
    tells (wrote (below-3 _ _ c.if-n-lt128.false c.if-n-lt32768.true refl) (told _ _ _ c.put_form-then-n-lt32768.ensures))

pub returns-then-n-lt2147483648 : goal.returns-then-n-lt2147483648
returns-then-n-lt2147483648 c =
    tells (wrote (below-4 _ _ c.if-n-lt32768.false c.if-n-lt2147483648.true refl) (told _ _ _ c.put_form-then-n-lt2147483648.ensures))

pub returns : goal.returns
returns c =
    tells (wrote (below-5 _ _ c.if-n-lt2147483648.false refl) (told _ _ _ c.put_form-2.ensures))
