use mathlib.Core.List.{map}
use mathlib.Core.Path.{◌≡◌, refl, ◌∙◌}
use native.Mathlib.Omega.{arith}
use lib.ListN.{length, length-map}
use Rattle.seq.proofs.Lists.{length-mapped}
use Rattle.seq.proofs.Loops.{filled-by, filled-all}
use Rattle.state.specs.Change.{canceled_of}
use borrow.Author.Rules.{rules}
use Rattle.state.proofs.cancels_of.Goals as goal

pub loop-i-init : goal.loop-i-init
loop-i-init c = refl

pub loop-i-preserved : goal.loop-i-preserved
loop-i-preserved c =
    let the-args = c.args in
    let the-loop = c.loop-i in
    let args = the-args in
    let loop = the-loop in
    let xs = args.calls in
    let l : length xs ≡ 32 = search (rules, length-mapped) in
    rw (c.cancel_of.ensures, loop.invariant)
    (filled-by (canceled_of args.slot) 32 _ _ xs loop.i (omega arith) (omega arith))

pub returns : goal.returns
returns c =
    let the-args = c.args in
    let args = the-args in
    let xs = args.calls in
    let l : length xs ≡ 32 = search (rules, length-mapped) in
    c.loop-i.invariant ∙ filled-all 32 _ (map (canceled_of args.slot) xs) c.loop-i.i (simp length-map l) (omega arith)
