use mathlib.Core.Path.{◌≡◌, sym, ap, ◌∙◌}
use native.Mathlib.Omega.{arith}
use lib.ListN.{length}
use Rattle.seq.specs.Lists.{on_found}
use Rattle.seq.proofs.Search.{first-hit, first-miss, first-end}
use Rattle.model.specs.State.{is_holder, owner, slots}
use borrow.Author.Rules.{rules}
use Rattle.state.proofs.owner.Goals as goal

pub returns-then-holders-i : goal.returns-then-holders-i
unfolding owner
returns-then-holders-i c =
    let args = c.args in
    let loop = c.loop-i in
    let xs = args.row.holders in
    let l : length xs ≡ 8 = search rules in
    sym (ap (λ f. on_found f (λ k. k) slots) (loop.invariant ∙ first-hit is_holder xs loop.i _ (omega arith) c.if-holders-i.true))

pub loop-i-preserved : goal.loop-i-preserved
loop-i-preserved c =
    let args = c.args in
    let loop = c.loop-i in
    let xs = args.row.holders in
    let l : length xs ≡ 8 = search rules in
    loop.invariant ∙ first-miss is_holder xs loop.i _ (omega arith) c.if-holders-i.false

pub returns : goal.returns
unfolding owner
returns c =
    let xs = c.args.row.holders in
    let l : length xs ≡ 8 = search rules in
    sym (ap (λ f. on_found f (λ k. k) slots) (c.loop-i.invariant ∙ first-end is_holder xs c.loop-i.i (omega arith)))
