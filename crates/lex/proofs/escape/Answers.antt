use mathlib.Core.Path.{sym, ◌∙◌}
use Prim.Native.Nat.{◌+◌, ◌<◌}
use native.Mathlib.Omega.{arith}
use lib.ListN.{length}
use Rattle.seq.proofs.Bytes.{byte-in}
use Rattle.lex.proofs.Laws.{escape-short, escape-hex, escape-none, within-from, short-more}
use Rattle.lex.proofs.escape.Goals as goal

short-in : (c : goal.In-34) → c.args.at < length c.args.s.now
short-in c =
    let args = c.args in
    let s = args.s.now in
    byte-in s args.at (short-more s args.at _ c.byte-b.ensures c.in-34.is)

pub overflow_add-result : goal.overflow_add-result
overflow_add-result c = let h = short-in c in omega arith

pub overflow_add-at : goal.overflow_add-at
overflow_add-at c = let h = byte-in c.args.s.now c.args.at (omega arith) in omega arith

pub returns-in-34 : goal.returns-in-34
returns-in-34 c =
    let args = c.args in
    let h = short-in c in record {
      means = sym (escape-short args.s.now args.at _ c.byte-b.ensures c.in-34.is);
      within = omega arith;
    }

pub returns-in-117 : goal.returns-in-117
returns-in-117 c =
    let args = c.args in
    let s = args.s.now in record {
      means = c.hex4.ensures.means ∙ sym (escape-hex s args.at _ c.byte-b.ensures c.in-117.is);
      within = within-from c.hex4.result args.at (args.at + 1) (length s) (omega arith) c.hex4.ensures.within;
    }

pub returns-in_default : goal.returns-in_default
returns-in_default c =
    let args = c.args in record {
      means = sym (escape-none args.s.now args.at _ c.byte-b.ensures c.in_default.in_default-own.rest.0.1 c.in_default.in_default-own.rest.1);
      within = tt;
    }
