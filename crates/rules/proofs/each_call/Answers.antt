use mathlib.Core.Path.{◌≡◌, sym, ◌∙◌}
use native.Mathlib.Omega.{arith}
use lib.ListN.{length}
use Rattle.seq.proofs.Lists.{length-mapped, every-fail, every-pass, every-end}
use Rattle.rules.specs.ByTable.{call_lawful}
use borrow.Author.Rules.{rules}
use Rattle.rules.proofs.each_call.Goals as goal

pub returns-then-not-call_lawful : goal.returns-then-not-call_lawful
returns-then-not-call_lawful c =
    let args = c.args in
    let loop = c.loop-call in
    let xs = args.calls in
    let l : length xs ≡ 32 = search (rules, length-mapped) in
    sym (loop.invariant ∙ every-fail (call_lawful args.sessions) xs loop.call-index _ (omega arith)
    (sym c.call_lawful.ensures ∙ c.if-not-call_lawful.true))

pub loop-call-preserved : goal.loop-call-preserved
loop-call-preserved c =
    let args = c.args in
    let loop = c.loop-call in
    let xs = args.calls in
    let l : length xs ≡ 32 = search (rules, length-mapped) in
    loop.invariant ∙ every-pass (call_lawful args.sessions) xs loop.call-index _ (omega arith)
    (sym c.call_lawful.ensures ∙ c.if-not-call_lawful.false)

pub returns : goal.returns
returns c =
    let args = c.args in
    let xs = args.calls in
    let l : length xs ≡ 32 = search (rules, length-mapped) in
    sym (c.loop-call.invariant ∙ every-end (call_lawful args.sessions) xs c.loop-call.call-index (omega arith))
