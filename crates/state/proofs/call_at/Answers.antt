use native.Mathlib.Omega.{arith}
use mathlib.Core.Path.{◌≡◌, sym, ◌∙◌}
use lib.ListN.{length, get_or-eq_default}
use Rattle.seq.proofs.Lists.{length-mapped, get_d_any}
use Rattle.model.specs.State.{no_call}
use borrow.Author.Rules.{rules}
use Rattle.state.proofs.call_at.Goals as goal

pub returns-then-k-lt32 : goal.returns-then-k-lt32
returns-then-k-lt32 c =
    let xs = c.args.calls in
    let l : length xs ≡ 32 = search (rules, length-mapped) in
    get_d_any xs c.args.k _ no_call (omega arith)

pub returns : goal.returns
returns c =
    let xs = c.args.calls in
    let l : length xs ≡ 32 = search (rules, length-mapped) in
    c.no_call.ensures ∙ sym (get_or-eq_default xs no_call {n = c.args.k} (omega arith))
