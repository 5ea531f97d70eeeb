use Prim.Native.Nat.{◌≤◌, ◌-◌}
use mathlib.Core.Path.{◌≡◌, sym}
use native.Mathlib.Omega.{arith}
use lib.ListN.{length}
use lib.Seq.{length-take-le}
use Rattle.uri.specs.Uri.{part_end, reserved_first}
use Rattle.uri.proofs.Laws.{end_short, part_bytes}
use Rattle.uri.proofs.is_reserved.Goals as goal

pub slice_bounds-same_bytes-end : goal.slice_bounds-same_bytes-end
slice_bounds-same_bytes-end c =
    let args = c.args in
    let part-end = c.part_end-e in
    let h : part_end args.text.now 0 ≤ length args.text.now = end_short args.text.now 0 (omega arith) in
    sym (length-take-le part-end.result args.text.now (omega (arith, part-end.ensures)))

pub returns : goal.returns
unfolding reserved_first
returns c =
    let args = c.args in
    let part-end = c.part_end-e in
    let q : part_end args.text.now 0 - 0 ≡ part-end.result = omega (arith, part-end.ensures) in
    rw (part_bytes args.text.now 0, q) c.same_bytes.ensures
