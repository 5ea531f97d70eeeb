use mathlib.Core.Path.{sym}
use Prim.Native.Nat.{◌<◌}
use native.Mathlib.Omega.{arith}
use lib.ListN.{length}
use Rattle.seq.proofs.Bytes.{byte-in}
use Rattle.lex.proofs.Laws.{next-end, next-neither, next-item}
use Rattle.lex.proofs.next.Goals as goal

inside : (c : goal.Then-b-close) → c.space-a.result < length c.args.s.now
inside c = byte-in c.args.s.now c.space-a.result (omega arith)

inside2 : (c : goal.Else-b-ne44) → c.space-a.result < length c.args.s.now
inside2 c = byte-in c.args.s.now c.space-a.result (omega arith)

pub overflow_add-result : goal.overflow_add-result
overflow_add-result c = let h = inside c in omega arith

pub returns-then-b-close : goal.returns-then-b-close
returns-then-b-close c =
    let args = c.args in
    let h = inside c in record {
      means = sym (next-end args.close args.s.now args.at _ _ c.space-a.ensures.means c.byte-b.ensures
          c.if-b-close.true);
      marked = omega arith;
    }

pub returns-then-b-ne44 : goal.returns-then-b-ne44
returns-then-b-ne44 c =
    let args = c.args in record {
      means = sym (next-neither args.close args.s.now args.at _ _ c.space-a.ensures.means
          c.byte-b.ensures c.if-b-close.false c.if-b-ne44.true);
      marked = tt;
    }

pub overflow_add-a : goal.overflow_add-a
overflow_add-a c = let h = inside2 c in omega arith

pub returns : goal.returns
returns c =
    let space = c.space-a in
    let args = c.args in
    let h = byte-in args.s.now space.result (omega arith) in record {
      means = sym (next-item args.close args.s.now args.at _ _ space.ensures.means c.byte-b.ensures _
          c.if-b-close.false c.if-b-ne44.false c.space.ensures.means);
      marked = omega arith;
    }
