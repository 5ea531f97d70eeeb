use mathlib.Core.Path.{◌≡◌}
use native.Mathlib.Omega.{arith}
use lib.ListN.{length}
use lib.Seq.{set_out}
use Rattle.seq.proofs.Lists.{length-mapped}
use borrow.Author.Rules.{rules}
use Rattle.state.proofs.with_session.Goals as goal

pub returns : goal.returns
returns c =
    let x = c.args in
    let l : length x.sessions ≡ 8 = search (rules, length-mapped) in
    rw (set_out x.sessions x.slot x.s (omega arith))
