use Prim.Native.Nat.{◌+◌, ◌<◌}
use mathlib.Core.Bool.{not}
use mathlib.Core.Bool.{true, false}
use mathlib.Core.Path.{◌≡◌, sym, ap, ◌∙◌}
use native.Mathlib.Omega.{arith}
use lib.ListN.{length, get_or}
use Rattle.seq.proofs.Lists.{every-end}
use Rattle.seq.proofs.Loops.{pairs_start, pairs-fail, pairs-pass, pairs_next, pairs_end}
use Rattle.contents.specs.Contents.{parts, apart, no_section, overlaps}
use Rattle.contents.proofs.Laws.{length-parts, is-apart, not-apart}
use Rattle.contents.proofs.overlaps.Goals as goal

pub overflow_add-n : goal.overflow_add-n
overflow_add-n c = omega (arith, c.count-n.ensures.upper_bound)

pub loop-i-init : goal.loop-i-init
loop-i-init c = pairs_start apart no_section (parts c.args.file.now)

pub part-x-requires : goal.part-x-requires
part-x-requires c = let s = c.args.file.now in omega (arith, length-parts s, c.count-n.ensures.value)

pub part-y-requires : goal.part-y-requires
part-y-requires c = let s = c.args.file.now in omega (arith, length-parts s, c.count-n.ensures.value)

pub returns-then-shares : goal.returns-then-shares
unfolding overlaps
returns-then-shares c =
    let s = c.args.file.now in
    let i = c.loop-i.i in
    let j = c.loop-j.j in
    let l : j < length (parts s) = omega (arith, length-parts s, c.count-n.ensures.value) in
    let t : apart (get_or (parts s) i no_section) (get_or (parts s) j no_section) ≡ false =
    rw (← c.part-x.ensures.value, ← c.part-y.ensures.value) (not-apart _ _ (sym c.shares.ensures ∙ c.if-shares.true)) in
    sym (ap not (c.loop-j.invariant ∙ pairs-fail apart no_section (parts s) i j l t))

pub loop-j-preserved : goal.loop-j-preserved
loop-j-preserved c =
    let s = c.args.file.now in
    let i = c.loop-i.i in
    let j = c.loop-j.j in
    let l : j < length (parts s) = omega (arith, length-parts s, c.count-n.ensures.value) in
    let t : apart (get_or (parts s) i no_section) (get_or (parts s) j no_section) ≡ true =
    rw (← c.part-x.ensures.value, ← c.part-y.ensures.value) (is-apart _ _ (sym c.shares.ensures ∙ c.if-shares.false)) in
    c.loop-j.invariant ∙ pairs-pass apart no_section (parts s) i j l t

pub loop-i-preserved : goal.loop-i-preserved
loop-i-preserved c =
    let s = c.args.file.now in
    let j = c.loop-j.j in
    let l = length-parts s in
    let m = c.count-n.ensures.value in
    c.loop-j.invariant ∙ pairs_next apart no_section (parts s) c.loop-i.i j (every-end _ (parts s) j (omega arith))

pub returns : goal.returns
unfolding overlaps
returns c =
    let s = c.args.file.now in
    let l = length-parts s in
    let m = c.count-n.ensures.value in
    sym (ap not (c.loop-i.invariant ∙ pairs_end apart no_section (parts s) c.loop-i.i (c.loop-i.i + 1) (omega arith) (omega arith)))
