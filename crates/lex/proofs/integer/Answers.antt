use mathlib.Core.Path.{sym, ◌∙◌}
use native.Mathlib.Omega.{arith}
use Rattle.seq.proofs.Bytes.{byte-in}
use Rattle.lex.proofs.Laws.{integer-zero, integer-more}
use Rattle.lex.proofs.integer.Goals as goal

pub overflow_add-result : goal.overflow_add-result
overflow_add-result c = let h = byte-in c.args.s.now c.args.at (omega arith) in omega arith

pub returns-then-byte-eq48 : goal.returns-then-byte-eq48
returns-then-byte-eq48 c =
    let args = c.args in
    let s = args.s.now in
    let h = byte-in s args.at (omega arith) in record {
      means = sym (integer-zero s args.at _ c.byte.ensures c.if-byte-eq48.true);
      within = omega arith;
    }

pub returns : goal.returns
returns c =
    let args = c.args in record {
      means = c.some_digits.ensures.means ∙ sym (integer-more args.s.now args.at _ c.byte.ensures c.if-byte-eq48.false);
      within = c.some_digits.ensures.within;
    }
