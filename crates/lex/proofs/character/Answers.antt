use mathlib.Core.Path.{sym, ◌∙◌}
use Prim.Native.Nat.{◌+◌}
use native.Mathlib.Omega.{arith}
use lib.ListN.{length}
use Rattle.lex.proofs.Laws.{char-plain, char-escape, within-from}
use Rattle.lex.proofs.character.Goals as goal

pub returns-then-byte-ne92 : goal.returns-then-byte-ne92
returns-then-byte-ne92 c =
    let args = c.args in record {
      means = sym (char-plain args.s.now args.at _ c.byte.ensures c.if-byte-ne92.true);
      within = omega arith;
    }

pub returns : goal.returns
returns c =
    let args = c.args in
    let s = args.s.now in record {
      means = c.escape.ensures.means ∙ sym (char-escape s args.at _ c.byte.ensures c.if-byte-ne92.false);
      within = within-from c.escape.result args.at (args.at + 1) (length s) (omega arith) c.escape.ensures.within;
    }
