use Rattle.packing.proofs.Laws.{str-1, str-2, str-3, str-4}
use mathlib.Core.Path.{refl}
use Rattle.buffer.proofs.Wrote.{told, tells, wrote}
use Rattle.packing.proofs.put_str.Goals as goal

pub returns-then-n-lt32 : goal.returns-then-n-lt32
returns-then-n-lt32 c =
    tells (wrote (str-1 _ _ c.if-n-lt32.true refl) (told _ _ _ c.put_byte.ensures))

pub returns-then-n-lt256 : goal.returns-then-n-lt256
returns-then-n-lt256 c =
    tells (wrote (str-2 _ _ c.if-n-lt32.false c.if-n-lt256.true refl) (told _ _ _ c.put_form.ensures))

pub returns-then-n-lt65536 : goal.returns-then-n-lt65536
returns-then-n-lt65536 c =
    tells (wrote (str-3 _ _ c.if-n-lt256.false c.if-n-lt65536.true refl) (told _ _ _ c.put_form-then-n-lt65536.ensures))

pub returns : goal.returns
returns c =
    tells (wrote (str-4 _ _ c.if-n-lt65536.false refl) (told _ _ _ c.put_form-2.ensures))
