use mathlib.Core.Path.{sym}
use Prim.Native.Nat.{◌<◌}
use native.Mathlib.Omega.{arith}
use lib.ListN.{length}
use Rattle.seq.proofs.Bytes.{byte-in}
use Rattle.lex.proofs.Laws.{colon-not, colon-is}
use Rattle.lex.proofs.colon.Goals as goal

inside : (c : goal.Else-byte-ne58) → c.space-z.result < length c.args.s.now
inside c = byte-in c.args.s.now c.space-z.result (omega arith)

pub returns-then-byte-ne58 : goal.returns-then-byte-ne58
returns-then-byte-ne58 c =
    let args = c.args in record {
      means = sym (colon-not args.s.now args.at _ _ c.space-z.ensures.means c.byte.ensures c.if-byte-ne58.true);
      onward = tt;
    }

pub overflow_add-z : goal.overflow_add-z
overflow_add-z c = let h = inside c in omega arith

pub returns : goal.returns
returns c =
    let args = c.args in record {
      means = sym (colon-is args.s.now args.at _ _ c.space-z.ensures.means c.byte.ensures _
          c.if-byte-ne58.false c.space.ensures.means);
      onward = omega arith;
    }
