use mathlib.Core.Path.{sym}
use native.Mathlib.Omega.{arith}
use Rattle.seq.proofs.Bytes.{byte-in}
use Rattle.lex.proofs.Laws.{signed_is, signed-none}
use mathlib.Core.Logic.{⊎_elim}
use Rattle.lex.proofs.signed.Goals as goal

pub overflow_add-result : goal.overflow_add-result
overflow_add-result c =
    let args = c.args in
    let s = args.s.now in
    ⊎_elim (λ w. let h = byte-in s args.at (omega arith) in omega arith) (λ w. let h = byte-in s args.at (omega arith) in omega arith)
    c.in-43.is

pub returns-in-43 : goal.returns-in-43
returns-in-43 c =
    let args = c.args in record {
      means = sym (signed_is args.s.now args.at _ c.byte-b.ensures c.in-43.is);
      onward = omega arith;
    }

pub returns-in_default : goal.returns-in_default
returns-in_default c =
    let args = c.args in record {
      means = sym (signed-none args.s.now args.at _ c.byte-b.ensures c.in_default.in_default-own.rest.1);
      onward = omega arith;
    }
