use mathlib.Core.List.{map}
use mathlib.Core.Path.{◌≡◌, refl, ◌∙◌}
use Rattle.model.specs.Step.{request}
use Rattle.next.specs.Next.{cancel_of}
use Rattle.next.proofs.Laws.{cancels-sent}
use lib.ListN.{length, length-map}
use Rattle.seq.proofs.Loops.{filled-by, filled-all}
use native.Mathlib.Omega.{arith}
use Rattle.seq.proofs.Lists.{length-mapped}
use borrow.Author.Rules.{rules}
use Rattle.next.proofs.cancels.Goals as goal

pub loop-i-init : goal.loop-i-init
loop-i-init c = refl

pub loop-i-preserved : goal.loop-i-preserved
loop-i-preserved c =
    let cancels-of = c.cancels_of-owed in
    let loop = c.loop-i in
    let l : length cancels-of.result ≡ 32 = search (rules, length-mapped) in
    rw loop.invariant (filled-by cancel_of 32 (record { slot = 0; request = 0 }) _ cancels-of.result loop.i (omega arith)
    (omega arith))

pub returns : goal.returns
returns c =
    let cancels-of = c.cancels_of-owed in
    let loop = c.loop-i in
    let args = c.args in
    let l : length cancels-of.result ≡ 32 = search (rules, length-mapped) in
    let e = loop.invariant ∙ filled-all 32 (record { slot = 0; request = 0 }) (map cancel_of cancels-of.result) loop.i (simp length-map l)
    (omega arith) in
    rw (e, cancels-of.ensures) (cancels-sent args.slot args.calls)
