use Prim.Native.Nat.{◌+◌, ◌%◌}
use mathlib.Core.Path.{◌∙◌}
use mathlib.Core.List.{[], ◌∷◌}
use native.Mathlib.Omega.{arith}
use Rattle.image.specs.Image.{call_bytes, digits}
use Rattle.image.proofs.Laws.{length_digits, put_four}
use Rattle.keep.proofs.store_call.Goals as goal

pub returns : goal.returns
unfolding call_bytes
returns c =
    let c2 = c in
    let c6 = c2 in
    let c11 = c6 in
    let c15 = c11 in
    let c19 = c15 in
    let a = c19.args in
    let x = a.x in
    c2.store_number-2.ensures ∙ rw (c6.store_byte-2.ensures, c11.store_number.ensures, c15.store_byte.ensures)
    (put_four a.s.now a.at (a.at + 1) (a.at + 9) (a.at + 10)
    (x.caller % 256 ∷ []) (digits 8 x.request) (x.callee % 256 ∷ []) (digits 8 x.invocation)
    (omega arith) (omega (arith, length_digits 8 x.request)) (omega arith) (omega arith))
