use mathlib.Core.Path.{sym}
use Prim.Native.Nat.{◌<◌}
use native.Mathlib.Omega.{arith}
use lib.ListN.{length}
use Rattle.seq.proofs.Bytes.{byte-in}
use Rattle.lex.proofs.Laws.{first-end, first-item}
use Rattle.lex.proofs.first.Goals as goal

inside : (c : goal.Then-byte-close) → c.space-a.result < length c.args.s.now
inside c = byte-in c.args.s.now c.space-a.result (omega arith)

pub overflow_add-result : goal.overflow_add-result
overflow_add-result c = let h = inside c in omega arith

pub returns-then-byte-close : goal.returns-then-byte-close
returns-then-byte-close c =
    let args = c.args in
    let h = inside c in record {
      means = sym (first-end args.close args.s.now args.at _ _ c.space-a.ensures.means c.byte.ensures
          c.if-byte-close.true);
      marked = omega arith;
    }

pub returns : goal.returns
returns c =
    let args = c.args in record {
      means = sym (first-item args.close args.s.now args.at _ _ c.space-a.ensures.means c.byte.ensures
          c.if-byte-close.false);
      marked = omega arith;
    }
