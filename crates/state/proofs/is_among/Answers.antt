use mathlib.Core.Bool.{false}
use mathlib.Core.Path.{◌≡◌, sym}
use native.Mathlib.Omega.{arith}
use lib.ListN.{length, get_or-eq_default}
use borrow.Author.Rules.{rules}
use Rattle.state.proofs.is_among.Goals as goal

pub returns : goal.returns
returns c =
    let xs = c.args.holders in
    let l : length xs ≡ 8 = search rules in
    sym (get_or-eq_default xs false {n = c.args.slot} (omega arith))
