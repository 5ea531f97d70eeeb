use Prim.Native.Nat.{◌+◌, ◌-◌}
use mathlib.Core.Path.{◌≡◌, ap, ◌∙◌}
use native.Mathlib.Omega.{arith}
use mathlib.Core.List.{◌++◌}
use lib.ListN.{length, take}
use lib.Seq.{drop-drop}
use borrow.Rule.Slice.PartMut.{put_mid}
use Rattle.image.specs.Image.{put}
use Rattle.keep.proofs.store_text.Goals as goal

pub returns : goal.returns
unfolding put
returns c =
    let a = c.args in
    let n : (a.at + length a.text.now) - a.at ≡ length a.text.now = omega arith in
    ap (λ k. put_mid a.at k a.s.now c.copy_from_slice.new.self) n
    ∙ ap (put_mid a.at (length a.text.now) a.s.now) c.copy_from_slice.ensures.after
    ∙ ap (λ xs. take a.at a.s.now ++ (a.text.now ++ xs)) (drop-drop (length a.text.now) a.at a.s.now)
