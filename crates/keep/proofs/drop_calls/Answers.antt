use Prim.Native.Nat.{◌+◌, ◌*◌, ◌≤◌}
use mathlib.Core.Path.{◌≡◌, refl, sym, ◌∙◌}
use native.Mathlib.Omega.{arith}
use lib.ListN.{length, drop}
use Rattle.image.specs.Image.{call_size, calls_at, cut}
use Rattle.image.proofs.Laws.{put-nil, row_at}
use Rattle.keep.specs.Keep.{dropped_bytes, changed}
use Rattle.keep.proofs.Places.{change-more, change-length, length-dropped, call-there}
use Rattle.model.specs.State.{no_call}
use Rattle.keep.proofs.drop_calls.Goals as goal

pub loop-i-init : goal.loop-i-init
unfolding cut
loop-i-init c = (refl, refl, sym (put-nil _ _))

pub loop-i-preserved : goal.loop-i-preserved
unfolding dropped_bytes
loop-i-preserved c =
    let a = c.args in
    let i = c.loop-i.i in
    let n = c.loop-i.invariant.1 in
    let s = a.state.now in
    let f = dropped_bytes a.slot in
    let there = call-there s i no_call c.requires (omega arith) in
    let h : calls_at + i * call_size + call_size ≤ length s = omega arith in (
      c.store_call.auto.s ∙ c.loop-i.invariant.0,
      change-length f call_size calls_at i s n h (length-dropped a.slot (row_at call_size i (drop calls_at s))),
      c.store_call.ensures ∙ rw (c.loop-i.invariant.2, c.dropped-next.ensures, c.calls-calls.ensures, there)
          (change-more f call_size calls_at i s n h),
    )

pub returns : goal.returns
unfolding changed
returns c =
    let e : c.loop-i.i ≡ 32 = omega arith in
    rw e at c.loop-i.invariant.2
