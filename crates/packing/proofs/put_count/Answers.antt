use Rattle.packing.proofs.Laws.{count-1, count-2, count-3}
use Prim.Native.Nat.{◌+◌}
use mathlib.Core.List.{[], ◌∷◌}
use mathlib.Core.Path.{◌≡◌, refl}
use Rattle.buffer.specs.Over.{over}
use Rattle.buffer.proofs.Wrote.{told, tells, wrote}
use Rattle.packing.proofs.put_count.Goals as goal

pub returns-then-n-lt16 : goal.returns-then-n-lt16
returns-then-n-lt16 c =
    let a = c.args in
    let put = c.put_byte.ensures in
    let head : _ ≡ over a.out.now a.o ((a.few + a.n) ∷ []) = put.bytes in
    tells (wrote (count-1 _ _ _ _ c.if-n-lt16.true refl) (told _ _ _ record { place = put.place; bytes = head }))

pub returns-then-n-lt65536 : goal.returns-then-n-lt65536
returns-then-n-lt65536 c =
    tells (wrote (count-2 _ _ _ _ c.if-n-lt16.false c.if-n-lt65536.true refl) (told _ _ _ c.put_form.ensures))

pub returns : goal.returns
returns c =
    tells (wrote (count-3 _ _ _ _ c.if-n-lt65536.false refl) (told _ _ _ c.put_form-2.ensures))
