use Prim.Native.Nat.{◌-◌, ◌<◌}
use mathlib.Core.Bool.{true, false}
use mathlib.Core.Path.{◌≡◌, sym, ◌∙◌}
use native.Mathlib.Omega.{arith}
use lib.ListN.{length, get_or}
use Rattle.seq.proofs.Lists.{every-fail, every-pass, every-end}
use Rattle.contents.specs.Contents.{sections, inside, no_section}
use Rattle.contents.proofs.Laws.{length-sections, not-inside, is-inside}
use Rattle.contents.proofs.all_inside.Goals as goal

pub returns-then-file-x : goal.returns-then-file-x
returns-then-file-x c =
    let s = c.args.file.now in
    let k = c.loop-k.k in
    let l : k < length (sections s) = omega (arith, length-sections s, c.count-k-end.ensures.value) in
    let t : inside s (get_or (sections s) k no_section) ≡ false = rw (← c.section_at-x.ensures.value) (not-inside s c.section_at-x.result (omega arith)) in
    sym (c.loop-k.invariant ∙ every-fail (inside s) (sections s) k no_section l t)

pub loop-k-preserved : goal.loop-k-preserved
loop-k-preserved c =
    let s = c.args.file.now in
    let k = c.loop-k.k in
    let l : k < length (sections s) = omega (arith, length-sections s, c.count-k-end.ensures.value) in
    let t : inside s (get_or (sections s) k no_section) ≡ true = rw (← c.section_at-x.ensures.value) (is-inside s c.section_at-x.result (omega arith)) in
    (c.loop-k.invariant ∙ every-pass (inside s) (sections s) k no_section l t)

pub returns : goal.returns
returns c =
    let s = c.args.file.now in
    sym (c.loop-k.invariant ∙ every-end (inside s) (sections s) c.loop-k.k (omega (arith, length-sections s, c.count-k-end.ensures.value)))
