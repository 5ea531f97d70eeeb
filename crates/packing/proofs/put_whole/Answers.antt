use Rattle.packing.proofs.Laws.{whole-1, whole-2, whole-3, whole-4, whole-5}
use mathlib.Core.Path.{refl}
use Rattle.buffer.proofs.Wrote.{told, tells, wrote}
use Rattle.packing.proofs.put_whole.Goals as goal

pub returns-then-n-lt128 : goal.returns-then-n-lt128
returns-then-n-lt128 c =
    tells (wrote (whole-1 _ _ c.if-n-lt128.true refl) (told _ _ _ c.put_byte.ensures))

pub returns-then-n-lt256 : goal.returns-then-n-lt256
returns-then-n-lt256 c =
    tells (wrote (whole-2 _ _ c.if-n-lt128.false c.if-n-lt256.true refl) (told _ _ _ c.put_form.ensures))

pub returns-then-n-lt65536 : goal.returns-then-n-lt65536
returns-then-n-lt65536 c =
    tells (wrote (whole-3 _ _ c.if-n-lt256.false c.if-n-lt65536.true refl) (told _ _ _ c.put_form-then-n-lt65536.ensures))

pub returns-then-n-lt4294967296 : goal.returns-then-n-lt4294967296
returns-then-n-lt4294967296 c =
    tells (wrote (whole-4 _ _ c.if-n-lt65536.false c.if-n-lt4294967296.true refl) (told _ _ _ c.put_form-then-n-lt4294967296.ensures))

pub returns : goal.returns
returns c =
    tells (wrote (whole-5 _ _ c.if-n-lt4294967296.false refl) (told _ _ _ c.put_form-2.ensures))
