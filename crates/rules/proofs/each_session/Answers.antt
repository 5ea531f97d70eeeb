use mathlib.Core.Path.{◌≡◌, sym, ◌∙◌}
use native.Mathlib.Omega.{arith}
use lib.ListN.{length}
use Rattle.seq.proofs.Lists.{length-mapped, every-fail, every-pass, every-end}
use Rattle.rules.specs.ByTable.{session_lawful}
use borrow.Author.Rules.{rules}
use Rattle.rules.proofs.each_session.Goals as goal

pub returns-then-not-session_lawful : goal.returns-then-not-session_lawful
returns-then-not-session_lawful c =
    let args = c.args in
    let loop = c.loop-s in
    let xs = args.sessions in
    let l : length xs ≡ 8 = search (rules, length-mapped) in
    sym (loop.invariant ∙ every-fail (session_lawful) xs loop.s-index _ (omega arith)
    (sym c.session_lawful.ensures ∙ c.if-not-session_lawful.true))

pub loop-s-preserved : goal.loop-s-preserved
loop-s-preserved c =
    let args = c.args in
    let loop = c.loop-s in
    let xs = args.sessions in
    let l : length xs ≡ 8 = search (rules, length-mapped) in
    loop.invariant ∙ every-pass (session_lawful) xs loop.s-index _ (omega arith)
    (sym c.session_lawful.ensures ∙ c.if-not-session_lawful.false)

pub returns : goal.returns
returns c =
    let xs = c.args.sessions in
    let l : length xs ≡ 8 = search (rules, length-mapped) in
    sym (c.loop-s.invariant ∙ every-end (session_lawful) xs c.loop-s.s-index (omega arith))
