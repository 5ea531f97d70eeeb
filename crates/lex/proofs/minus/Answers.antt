use mathlib.Core.Path.{sym}
use native.Mathlib.Omega.{arith}
use Rattle.seq.proofs.Bytes.{byte-in}
use Rattle.lex.proofs.Laws.{minus_is, minus-none}
use Rattle.lex.proofs.minus.Goals as goal

pub overflow_add-result : goal.overflow_add-result
overflow_add-result c = let h = byte-in c.args.s.now c.args.at (omega arith) in omega arith

pub returns-then-byte-eq45 : goal.returns-then-byte-eq45
returns-then-byte-eq45 c =
    let args = c.args in record {
      means = sym (minus_is args.s.now args.at _ c.byte.ensures c.if-byte-eq45.true);
      onward = omega arith;
    }

pub returns : goal.returns
returns c =
    let args = c.args in record {
      means = sym (minus-none args.s.now args.at _ c.byte.ensures c.if-byte-eq45.false);
      onward = omega arith;
    }
