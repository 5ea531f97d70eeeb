use mathlib.Core.Bool.{Bool, false}
use mathlib.Core.Path.{◌≡◌, refl, sym, ap, ◌∙◌}
use native.Mathlib.Omega.{arith}
use lib.ListN.{length, set}
use Rattle.seq.proofs.Loops.{filled_to, filled_more, filled-all}
use Rattle.state.specs.Change.{both}
use Rattle.state.proofs.Laws.{both_at, both-length}
use borrow.Author.Rules.{rules}
use Rattle.state.proofs.receivers.Goals as goal

pub loop-i-init : goal.loop-i-init
loop-i-init c = refl

pub loop-i-preserved : goal.loop-i-preserved
loop-i-preserved c =
    let args = c.args in
    let loop = c.loop-i in
    let hs = args.row.holders in
    let n : length hs ≡ 8 = search rules in
    let ts = args.to in
    let l = both-length hs ts in
    let all = filled_to 8 false (both hs ts) loop.i in
    rw loop.invariant
    (ap (λ (b : Bool). set all loop.i b) (sym (both_at hs ts loop.i)) ∙ filled_more 8 false false (both hs ts) loop.i (omega arith) (omega arith))

pub returns : goal.returns
returns c =
    let args = c.args in
    let loop = c.loop-i in
    let hs = args.row.holders in
    let n : length hs ≡ 8 = search rules in
    loop.invariant ∙ filled-all 8 false (both hs args.to) loop.i (both-length hs args.to ∙ n) (omega arith)
