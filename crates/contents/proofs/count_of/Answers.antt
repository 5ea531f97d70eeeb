use Prim.Native.Nat.{◌-◌, ◌<◌}
use mathlib.Core.Bool.{true, false}
use mathlib.Core.Path.{◌≡◌}
use native.Mathlib.Omega.{arith}
use lib.ListN.{length, get_or}
use Rattle.seq.proofs.Loops.{tally-hit, tally-miss, tally-end}
use Rattle.contents.specs.Contents.{sections, of_kind, no_section}
use Rattle.contents.proofs.Laws.{length-sections, of-kind, not-of-kind}
use Rattle.contents.proofs.count_of.Goals.{else-x-kind, then-x-kind}
use Rattle.contents.proofs.count_of.Goals as goal

pub loop-k-preserved : goal.loop-k-preserved
loop-k-preserved c =
    let s = c.args.file.now in
    let kind = c.args.kind in
    let k = c.loop-k.k in
    let l : k < length (sections s) = omega (arith, length-sections s, c.count-k-end.ensures.value) in
    let e = c.loop-k.invariant.1 in
    elim c.if-x-kind.branch [
      | then-x-kind w ↦ let t : of_kind kind (get_or (sections s) k no_section) ≡ true = rw (← c.section_at-x.ensures.value) (of-kind kind _ w.if-x-kind.true) in
          let h = tally-hit (of_kind kind) (sections s) k no_section l t in (omega arith, omega arith)
      | else-x-kind w ↦ let t : of_kind kind (get_or (sections s) k no_section) ≡ false = rw (← c.section_at-x.ensures.value) (not-of-kind kind _ w.if-x-kind.false) in
          let h = tally-miss (of_kind kind) (sections s) k no_section l t in (omega arith, omega arith)
    ]

pub returns : goal.returns
returns c =
    let s = c.args.file.now in
    let kind = c.args.kind in
    let h = tally-end (of_kind kind) (sections s) c.loop-k.k (omega (arith, length-sections s, c.count-k-end.ensures.value)) in
    omega arith
