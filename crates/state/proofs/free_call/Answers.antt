use mathlib.Core.Path.{◌≡◌, sym, ◌∙◌}
use native.Mathlib.Omega.{arith}
use lib.ListN.{length}
use Rattle.seq.proofs.Lists.{length-mapped}
use Rattle.seq.proofs.Search.{first-hit, first-miss, first-end}
use borrow.Author.Tests.{eq-eqb, ne_eqb}
use Rattle.model.specs.State.{idle}
use borrow.Author.Rules.{rules}
use Rattle.state.proofs.free_call.Goals as goal

pub returns-then-calls-i-eq0 : goal.returns-then-calls-i-eq0
unfolding idle
returns-then-calls-i-eq0 c =
    let args = c.args in
    let loop = c.loop-i in
    let xs = args.calls in
    let l : length xs ≡ 32 = search (rules, length-mapped) in
    sym (loop.invariant ∙ first-hit (idle) xs loop.i _ (omega arith) (eq-eqb _ _ c.if-calls-i-eq0.true))

pub loop-i-preserved : goal.loop-i-preserved
unfolding idle
loop-i-preserved c =
    let args = c.args in
    let loop = c.loop-i in
    let xs = args.calls in
    let l : length xs ≡ 32 = search (rules, length-mapped) in
    loop.invariant ∙ first-miss (idle) xs loop.i _ (omega arith) (ne_eqb _ _ c.if-calls-i-eq0.false)

pub returns : goal.returns
returns c =
    let xs = c.args.calls in
    let l : length xs ≡ 32 = search (rules, length-mapped) in
    sym (c.loop-i.invariant ∙ first-end (idle) xs c.loop-i.i (omega arith))
