use native.Mathlib.Omega.{arith}
use mathlib.Core.Path.{◌≡◌, sym, ◌∙◌}
use lib.ListN.{length, get_or-eq_default}
use Rattle.seq.proofs.Lists.{length-mapped, get_d_any}
use Rattle.model.specs.State.{no_session}
use borrow.Author.Rules.{rules}
use Rattle.state.proofs.session_at.Goals as goal

pub returns-then-slot-lt8 : goal.returns-then-slot-lt8
returns-then-slot-lt8 c =
    let xs = c.args.sessions in
    let l : length xs ≡ 8 = search (rules, length-mapped) in
    get_d_any xs c.args.slot _ no_session (omega arith)

pub returns : goal.returns
returns c =
    let xs = c.args.sessions in
    let l : length xs ≡ 8 = search (rules, length-mapped) in
    c.with_status.ensures ∙ sym (get_or-eq_default xs no_session {n = c.args.slot} (omega arith))
