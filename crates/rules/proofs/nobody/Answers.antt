use mathlib.Core.Bool.{not}
use mathlib.Core.Path.{◌≡◌, sym, ap, ◌∙◌}
use native.Mathlib.Omega.{arith}
use lib.ListN.{length}
use Rattle.seq.proofs.Lists.{every-fail, every-pass, every-end}
use borrow.Author.Rules.{rules}
use Rattle.rules.proofs.nobody.Goals as goal

pub returns-then-holds : goal.returns-then-holds
returns-then-holds c =
    let args = c.args in
    let loop = c.loop-holds in
    let xs = args.holders in
    let l : length xs ≡ 8 = search rules in
    sym (loop.invariant ∙ every-fail not xs loop.holds-index _ (omega arith) (ap not c.if-holds.true))

pub loop-holds-preserved : goal.loop-holds-preserved
loop-holds-preserved c =
    let args = c.args in
    let loop = c.loop-holds in
    let xs = args.holders in
    let l : length xs ≡ 8 = search rules in
    loop.invariant ∙ every-pass not xs loop.holds-index _ (omega arith) (ap not c.if-holds.false)

pub returns : goal.returns
returns c =
    let xs = c.args.holders in
    let l : length xs ≡ 8 = search rules in
    sym (c.loop-holds.invariant ∙ every-end not xs c.loop-holds.holds-index (omega arith))
