use Prim.Native.Nat.{◌+◌, ◌%◌}
use mathlib.Core.Path.{◌∙◌}
use mathlib.Core.List.{[], ◌∷◌}
use native.Mathlib.Omega.{arith}
use Rattle.uri.specs.Uri.{policy_no}
use Rattle.image.specs.Image.{row_head, holders_no, digits}
use Rattle.image.proofs.Laws.{length_digits, put_four}
use Rattle.keep.proofs.store_head.Goals as goal

pub returns : goal.returns
unfolding row_head
returns c =
    let c2 = c in
    let c7 = c2 in
    let c11 = c7 in
    let c15 = c11 in
    let c17 = c15 in
    let c19 = c17 in
    let c21 = c19 in
    let a = c21.args in
    let r = a.r in
    c2.store_byte-3.ensures
    ∙ rw (c7.store_byte-2.ensures, c11.store_byte.ensures, c15.store_number.ensures, c17.holders_number-h.ensures, c19.policy_number-p.ensures)
    (put_four a.s.now a.at (a.at + 8) (a.at + 9) (a.at + 10)
    (digits 8 r.number) (policy_no r.policy ∷ []) (holders_no a.kind r.holders ∷ []) (r.len % 256 ∷ [])
    (omega (arith, length_digits 8 r.number)) (omega arith) (omega arith) (omega arith))
