use mathlib.Core.Path.{sym, ◌∙◌}
use native.Mathlib.Omega.{arith}
use Rattle.seq.proofs.Bytes.{byte-in}
use Rattle.lex.proofs.Laws.{quoted-not, quoted-is}
use Rattle.lex.proofs.quoted.Goals as goal

pub returns-then-byte-ne34 : goal.returns-then-byte-ne34
returns-then-byte-ne34 c =
    let args = c.args in record {
      means = sym (quoted-not args.s.now args.at _ c.byte.ensures c.if-byte-ne34.true);
      within = tt;
    }

pub overflow_add-at : goal.overflow_add-at
overflow_add-at c = let h = byte-in c.args.s.now c.args.at (omega arith) in omega arith

pub returns : goal.returns
returns c =
    let args = c.args in record {
      means = c.string.ensures.means ∙ sym (quoted-is args.s.now args.at _ c.byte.ensures c.if-byte-ne34.false);
      within = c.string.ensures.within;
    }
