use Prim.Native.Nat.{◌+◌}
use mathlib.Core.Path.{◌∙◌}
use mathlib.Core.List.{[], ◌∷◌}
use native.Mathlib.Omega.{arith}
use Rattle.image.specs.Image.{status_no, session_bytes, digits}
use Rattle.image.proofs.Laws.{length_digits, put_four}
use Rattle.keep.proofs.store_session.Goals as goal

pub returns : goal.returns
unfolding session_bytes
returns c =
    let c2 = c in
    let c6 = c2 in
    let c10 = c6 in
    let c14 = c10 in
    let c16 = c14 in
    let c18 = c16 in
    let a = c18.args in
    let x = a.x in
    c2.store_number-3.ensures ∙ rw (c6.store_number-2.ensures, c10.store_number.ensures, c14.store_byte.ensures, c16.status_number-b.ensures)
    (put_four a.s.now a.at (a.at + 1) (a.at + 9) (a.at + 17)
    (status_no x.status ∷ []) (digits 8 x.id) (digits 8 x.request) (digits 8 x.invocation)
    (omega arith) (omega (arith, length_digits 8 x.id)) (omega (arith, length_digits 8 x.request)) (omega arith))
