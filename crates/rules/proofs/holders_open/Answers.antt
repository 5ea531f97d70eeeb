use mathlib.Core.Path.{◌≡◌, sym, ◌∙◌}
use native.Mathlib.Omega.{arith}
use lib.ListN.{length}
use Rattle.seq.proofs.Lists.{length-mapped}
use Rattle.model.specs.State.{no_session}
use Rattle.rules.proofs.Laws.{holder-fail, holder-pass, holder-skip, holders-end}
use borrow.Author.Rules.{rules}
use Rattle.rules.proofs.holders_open.Goals.{else-holders-i, then-holders-i+else-not-is_open}
use Rattle.rules.proofs.holders_open.Goals as goal

pub returns-then-not-is_open : goal.returns-then-not-is_open
returns-then-not-is_open c =
    let args = c.args in
    let loop = c.loop-i in
    let if1 = c.if-holders-i in
    let ss = args.sessions in
    let hs = args.holders in
    let l : length ss ≡ 8 = search (rules, length-mapped) in
    let m : length hs ≡ 8 = search rules in
    let i = loop.i in
    sym (loop.invariant ∙ holder-fail ss hs i _ (omega arith) (omega arith) if1.true
    (sym c.is_open.ensures ∙ c.if-not-is_open.true))

pub loop-i-preserved : goal.loop-i-preserved
loop-i-preserved c =
    let args = c.args in
    let loop = c.loop-i in
    let ss = args.sessions in
    let hs = args.holders in
    let l : length ss ≡ 8 = search (rules, length-mapped) in
    let m : length hs ≡ 8 = search rules in
    let i = loop.i in
    loop.invariant ∙ elim c.if-holders-i.branch [
      | then-holders-i+else-not-is_open w ↦ holder-pass ss hs i no_session (omega arith) (omega arith) w.if-holders-i.true (sym w.is_open.ensures ∙ w.if-not-is_open.false)
      | else-holders-i w ↦ holder-skip ss hs i no_session (omega arith) (omega arith) w.if-holders-i.false
    ]

pub returns : goal.returns
returns c =
    let ss = c.args.sessions in
    let hs = c.args.holders in
    let l : length ss ≡ 8 = search (rules, length-mapped) in
    let m : length hs ≡ 8 = search rules in
    let i = c.loop-i.i in
    sym (c.loop-i.invariant ∙ holders-end ss hs i (omega arith))
