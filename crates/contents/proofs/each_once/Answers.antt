use Prim.Native.Nat.{◌-◌}
use mathlib.Core.Path.{◌≡◌, refl, sym}
use mathlib.Core.Bool.{true, false}
use native.Mathlib.Omega.{arith}
use borrow.Author.Tests.{eq-eqb, ne_eqb}
use lib.Dec.{eqb}
use Rattle.seq.specs.Lists.{every, tally}
use Rattle.contents.specs.Contents.{sections, of_kind, below}
use Rattle.contents.proofs.Laws.{below-pass, below-fail}
use Rattle.contents.proofs.each_once.Goals as goal

pub loop-k-init : goal.loop-k-init
unfolding every below
loop-k-init c = refl

pub returns-then-count_of-ne1 : goal.returns-then-count_of-ne1
returns-then-count_of-ne1 c =
    let s = c.args.file.now in
    let t : eqb (tally (of_kind c.loop-k.k) (sections s)) 1 ≡ false = rw (← c.count_of.ensures) (ne_eqb c.count_of.result 1 (λ e. omega arith)) in
    sym (below-fail (λ k. eqb (tally (of_kind k) (sections s)) 1) c.loop-k.k c.loop-k.invariant c.args.n (omega arith) t)

pub loop-k-preserved : goal.loop-k-preserved
loop-k-preserved c =
    let s = c.args.file.now in
    let t : eqb (tally (of_kind c.loop-k.k) (sections s)) 1 ≡ true = rw (← c.count_of.ensures) (eq-eqb c.count_of.result 1 (omega arith)) in
    (below-pass (λ k. eqb (tally (of_kind k) (sections s)) 1) c.loop-k.k c.loop-k.invariant t)

pub returns : goal.returns
returns c =
    let args = c.args in
    let e : c.loop-k.k ≡ args.n = omega arith in
    sym (rw e at c.loop-k.invariant)
