use mathlib.Core.Path.{◌≡◌, sym}
use native.Mathlib.Omega.{arith}
use lib.ListN.{length}
use lib.Seq.{set_out}
use borrow.Author.Rules.{rules}
use Rattle.state.proofs.with_flag.Goals as goal

pub returns : goal.returns
returns c =
    let x = c.args in
    let l : length x.holders ≡ 8 = search rules in
    sym (set_out x.holders x.slot x.flag (omega arith))
