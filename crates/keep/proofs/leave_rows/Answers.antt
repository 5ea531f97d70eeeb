use Prim.Native.Nat.{◌+◌, ◌*◌, ◌≤◌}
use mathlib.Core.Path.{◌≡◌, refl, sym, ◌∙◌}
use native.Mathlib.Omega.{arith}
use lib.ListN.{length, drop, length-drop}
use Rattle.image.specs.Image.{row_size, cut, table_at}
use Rattle.image.proofs.Laws.{put-nil, row_at, row-length}
use Rattle.image.proofs.Parts.{table-low}
use Rattle.keep.specs.Keep.{left_bytes, changed}
use Rattle.keep.proofs.Places.{row-there, change-more, change-length, length-left}
use Rattle.keep.proofs.leave_rows.Goals as goal

pub loop-i-init : goal.loop-i-init
unfolding cut
loop-i-init c = (refl, refl, sym (put-nil _ _))

pub loop-i-preserved : goal.loop-i-preserved
loop-i-preserved c =
    let a = c.args in
    let i = c.loop-i.i in
    let n = c.loop-i.invariant.1 in
    let s = a.state.now in
    let at = table_at a.kind + 8 in
    let f = left_bytes a.kind a.slot in
    let h : at + i * row_size + row_size ≤ length s = omega (arith, table-low a.kind) in
    let there = row-there f row_size at i s n h in (
      c.leave_row.auto.state ∙ c.loop-i.invariant.0,
      change-length f row_size at i s n h
          (length-left a.kind a.slot (row_at row_size i (drop at s)) (row-length row_size i (drop at s) (simp length-drop (omega arith)))),
      c.leave_row.ensures ∙ rw (c.loop-i.invariant.2, there) (change-more f row_size at i s n h),
    )

pub returns : goal.returns
unfolding changed
returns c =
    let e : c.loop-i.i ≡ 32 = omega arith in
    rw e at c.loop-i.invariant.2
