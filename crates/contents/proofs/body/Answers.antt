use Prim.Native.Nat.{◌-◌, ◌<◌}
use mathlib.Core.Bool.{true, false}
use mathlib.Core.Path.{◌≡◌, ◌∙◌}
use native.Mathlib.Omega.{arith}
use lib.ListN.{length, get_or}
use Rattle.seq.proofs.Search.{first-hit, first-miss, first-end}
use Rattle.contents.specs.Contents.{sections, of_kind, no_section, body_of}
use Rattle.contents.proofs.Laws.{length-sections, of-kind, not-of-kind}
use Rattle.contents.proofs.body.Goals as goal

pub returns-then-x-kind : goal.returns-then-x-kind
unfolding body_of
returns-then-x-kind c =
    let s = c.args.file.now in
    let kind = c.args.kind in
    let k = c.loop-k.k in
    let l : k < length (sections s) = omega (arith, length-sections s, c.count-k-end.ensures.value) in
    let t : of_kind kind (get_or (sections s) k no_section) ≡ true = rw (← c.section_at-x.ensures.value) (of-kind kind _ c.if-x-kind.true) in
    let h = c.loop-k.invariant ∙ first-hit (of_kind kind) (sections s) k no_section l t in
    rw (h, ← c.section_at-x.ensures.value) c.body_at.ensures

pub loop-k-preserved : goal.loop-k-preserved
loop-k-preserved c =
    let s = c.args.file.now in
    let kind = c.args.kind in
    let k = c.loop-k.k in
    let l : k < length (sections s) = omega (arith, length-sections s, c.count-k-end.ensures.value) in
    let t : of_kind kind (get_or (sections s) k no_section) ≡ false = rw (← c.section_at-x.ensures.value) (not-of-kind kind _ c.if-x-kind.false) in
    (c.loop-k.invariant ∙ first-miss (of_kind kind) (sections s) k no_section l t)

pub returns : goal.returns
unfolding body_of
returns c =
    let s = c.args.file.now in
    let kind = c.args.kind in
    let h = c.loop-k.invariant ∙ first-end (of_kind kind) (sections s) c.loop-k.k (omega (arith, length-sections s, c.count-k-end.ensures.value)) in
    rw h
