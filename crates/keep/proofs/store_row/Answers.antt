use Prim.Native.Nat.{◌+◌, ◌≤◌}
use mathlib.Core.Path.{◌≡◌, ◌∙◌}
use native.Mathlib.Omega.{arith}
use lib.ListN.{length}
use Rattle.image.specs.Image.{row_head, row_bytes}
use Rattle.image.proofs.Laws.{length-head, length-row, put_on}
use borrow.Author.Rules.{rules}
use Rattle.keep.proofs.store_row.Goals as goal

pub store_text-requires : goal.store_text-requires
store_text-requires c =
    let t : length c.args.r.text ≡ 128 = search rules in
    let c5 = c in
    let c8 = c5 in
    let a = c8.args in
    let k : length c5.store_head.new.s ≡ length a.s.now = c5.store_head.auto.s in
    let h : a.at + 11 + length a.r.text ≤ length c5.store_head.new.s = omega arith in
    h

pub returns : goal.returns
unfolding row_bytes
returns c =
    let t : length c.args.r.text ≡ 128 = search rules in
    let c2 = c in
    let c8 = c2 in
    let c11 = c8 in
    let a = c11.args in (
      c2.store_text.ensures ∙ rw c8.store_head.ensures
          (put_on a.s.now a.at (a.at + 11) (row_head a.kind a.r) a.r.text
          (omega (arith, length-head a.kind a.r)) (omega arith)),
      length-row a.kind a.r t,
    )
