use mathlib.Core.Path.{sym, ◌∙◌}
use native.Mathlib.Omega.{arith}
use lib.ListN.{length}
use Rattle.lex.proofs.Laws.{exponent-is, exponent-none, from-within}
use Rattle.lex.proofs.exponent.Goals as goal

pub returns-in-101 : goal.returns-in-101
returns-in-101 c =
    let signed = c.signed in
    let args = c.args in
    let s = args.s.now in record {
      means = c.some_digits.ensures.means ∙ sym
          (exponent-is s args.at _ c.byte-b.ensures _ c.in-101.is signed.ensures.means);
      within = from-within c.some_digits.result args.at signed.result (length s) (omega arith) c.some_digits.ensures.within;
    }

pub returns-in_default : goal.returns-in_default
returns-in_default c =
    let args = c.args in record {
      means = sym (exponent-none args.s.now args.at _ c.byte-b.ensures c.in_default.in_default-own.rest.1);
      within = omega arith;
    }
