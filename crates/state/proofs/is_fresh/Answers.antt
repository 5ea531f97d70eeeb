use mathlib.Core.Path.{◌≡◌, sym, ◌∙◌}
use native.Mathlib.Omega.{arith}
use lib.ListN.{length}
use Rattle.seq.proofs.Lists.{length-mapped, every-fail, every-pass, every-end}
use Rattle.model.specs.Step.{is_fresh}
use borrow.Author.Rules.{rules}
use Rattle.state.proofs.is_fresh.Goals as goal

pub returns-then-not-is_fresh_to : goal.returns-then-not-is_fresh_to
returns-then-not-is_fresh_to c =
    let the-args = c.args in
    let the-loop = c.loop-s in
    let args = the-args in
    let loop = the-loop in
    let xs = args.sessions in
    let l : length xs ≡ 8 = search (rules, length-mapped) in
    sym (loop.invariant ∙ every-fail (is_fresh args.number) xs loop.s-index _ (omega arith)
    (sym c.is_fresh_to.ensures ∙ c.if-not-is_fresh_to.true))

pub loop-s-preserved : goal.loop-s-preserved
loop-s-preserved c =
    let the-args = c.args in
    let the-loop = c.loop-s in
    let args = the-args in
    let loop = the-loop in
    let xs = args.sessions in
    let l : length xs ≡ 8 = search (rules, length-mapped) in
    loop.invariant ∙ every-pass (is_fresh args.number) xs loop.s-index _ (omega arith)
    (sym c.is_fresh_to.ensures ∙ c.if-not-is_fresh_to.false)

pub returns : goal.returns
returns c =
    let xs = c.args.sessions in
    let l : length xs ≡ 8 = search (rules, length-mapped) in
    sym (c.loop-s.invariant ∙ every-end (is_fresh c.args.number) xs c.loop-s.s-index (omega arith))
