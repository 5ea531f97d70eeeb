use mathlib.Core.Path.{sym, ◌∙◌}
use Prim.Native.Nat.{◌+◌}
use native.Mathlib.Omega.{arith}
use lib.ListN.{length}
use Rattle.lex.proofs.Laws.{fraction-is, fraction-none, from-within}
use Rattle.lex.proofs.fraction.Goals as goal

pub returns-then-byte-eq46 : goal.returns-then-byte-eq46
returns-then-byte-eq46 c =
    let args = c.args in
    let s = args.s.now in record {
      means = c.some_digits.ensures.means ∙ sym (fraction-is s args.at _ c.byte.ensures c.if-byte-eq46.true);
      within = from-within c.some_digits.result args.at (args.at + 1) (length s) (omega arith) c.some_digits.ensures.within;
    }

pub returns : goal.returns
returns c =
    let args = c.args in record {
      means = sym (fraction-none args.s.now args.at _ c.byte.ensures c.if-byte-eq46.false);
      within = omega arith;
    }
