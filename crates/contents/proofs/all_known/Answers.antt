use Prim.Native.Nat.{◌-◌, ◌<◌}
use mathlib.Core.Bool.{true, false}
use mathlib.Core.Path.{◌≡◌, sym, ◌∙◌}
use native.Mathlib.Omega.{arith}
use borrow.Author.Tests.{lt-ltb, le-ltb}
use lib.Dec.{ltb}
use lib.ListN.{length, get_or}
use Rattle.seq.proofs.Lists.{every-fail, every-pass, every-end}
use Rattle.contents.specs.Contents.{sections, no_section}
use Rattle.contents.proofs.Laws.{length-sections}
use Rattle.contents.proofs.all_known.Goals as goal

pub returns-then-n-x : goal.returns-then-n-x
returns-then-n-x c =
    let s = c.args.file.now in
    let n = c.args.n in
    let k = c.loop-k.k in
    let l : k < length (sections s) = omega (arith, length-sections s, c.count-k-end.ensures.value) in
    let t : ltb (get_or (sections s) k no_section).kind n ≡ false = rw (← c.section_at-x.ensures.value) (le-ltb c.section_at-x.result.kind n (omega arith)) in
    sym (c.loop-k.invariant ∙ every-fail (λ x. ltb x.kind n) (sections s) k no_section l t)

pub loop-k-preserved : goal.loop-k-preserved
loop-k-preserved c =
    let s = c.args.file.now in
    let n = c.args.n in
    let k = c.loop-k.k in
    let l : k < length (sections s) = omega (arith, length-sections s, c.count-k-end.ensures.value) in
    let t : ltb (get_or (sections s) k no_section).kind n ≡ true = rw (← c.section_at-x.ensures.value) (lt-ltb c.section_at-x.result.kind n (omega arith)) in
    (c.loop-k.invariant ∙ every-pass (λ x. ltb x.kind n) (sections s) k no_section l t)

pub returns : goal.returns
returns c =
    let s = c.args.file.now in
    let n = c.args.n in
    sym (c.loop-k.invariant ∙ every-end (λ x. ltb x.kind n) (sections s) c.loop-k.k (omega (arith, length-sections s, c.count-k-end.ensures.value)))
