use mathlib.Core.Path.{◌≡◌, sym, ap, ◌∙◌}
use Prim.Native.Nat.{◌+◌, ◌-◌}
use native.Mathlib.Omega.{arith}
use lib.ListN.{length, take}
use lib.Seq.{length-take-le}
use borrow.Rule.Slice.PartMut.{put_mid}
use Rattle.buffer.proofs.Over.{over-past, over-put, copy-all}
use Rattle.buffer.proofs.put_bytes.Goals as goal
use Rattle.buffer.proofs.put_bytes.Goals.{then-at-out, else-at-out}

pub returns-clause-bytes : goal.returns-clause-bytes
returns-clause-bytes c =
    let out = c.args.out.now in
    let src = c.args.src.now in
    let at = c.args.at in
    elim c.if-at-out.branch [
      | then-at-out w ↦
          let n = w.min-n.result in
          let e : length (take n src) ≡ n = length-take-le n src (omega (arith, w.min-n.ensures)) in
          let k : at + n - at ≡ length (take n src) = omega arith in
          w.out-is
          ∙ ap (λ m. put_mid at m out w.copy_from_slice.new.self) k
          ∙ ap (put_mid at (length (take n src)) out) w.copy_from_slice.ensures.after
          ∙ sym (over-put out at (take n src) (omega (arith, w.min-n.ensures)))
          ∙ copy-all out src at n n (omega (arith, w.min-n.ensures)) (omega arith)
      | else-at-out w ↦ w.out-is ∙ sym (over-past out at src w.if-at-out.false)
    ]
