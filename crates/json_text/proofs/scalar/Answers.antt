use mathlib.Core.Path.{sym, ◌∙◌}
use mathlib.Core.Logic.{⊎_elim}
use Prim.Native.Nat.{◌+◌}
use native.Mathlib.Omega.{arith}
use lib.ListN.{length}
use Rattle.seq.proofs.Bytes.{byte-in}
use Rattle.lex.proofs.Laws.{within-from}
use Rattle.json_text.proofs.Laws.{value-string, value-minus, value-digit, value-true, value-false, value-null, value-below, value-above, flat-list, flat-dict}
use Rattle.json_text.specs.Json.{value}
use Rattle.lex.specs.Lex.{number}
use mathlib.Core.Path.{◌≡◌}
use Rattle.json_text.proofs.scalar.Goals.{in-45-1, in_default+else-this-lt48+then-this-lt58}
use Rattle.json_text.proofs.scalar.Goals as goal

pub literal-requires : goal.literal-requires
literal-requires c =
    let here = byte-in c.args.s.now c.args.at (omega arith) in
    omega arith

pub literal-requires-in-102 : goal.literal-requires-in-102
literal-requires-in-102 c =
    let here = byte-in c.args.s.now c.args.at (omega arith) in
    omega arith

pub literal-requires-in-110 : goal.literal-requires-in-110
literal-requires-in-110 c =
    let here = byte-in c.args.s.now c.args.at (omega arith) in
    omega arith

pub returns-in-34 : goal.returns-in-34
returns-in-34 c =
    let args = c.args in record {
      means = c.quoted.ensures.means ∙ sym (value-string 0 args.s.now args.at _ c.byte.ensures c.in-34.is);
      within = within-from c.quoted.result args.at (args.at + 1) (length args.s.now) (omega arith) c.quoted.ensures.within;
    }

pub returns-in-91 : goal.returns-in-91
returns-in-91 c =
    let args = c.args in
    let s = args.s.now in
    let opens = ⊎_elim (flat-list s args.at _ c.byte.ensures) (flat-dict s args.at _ c.byte.ensures) c.in-91.is in record {
      means = sym opens;
      within = tt;
    }

pub returns-in-116 : goal.returns-in-116
returns-in-116 c =
    let args = c.args in record {
      means = c.literal.ensures.means ∙ sym
          (value-true 0 args.s.now args.at _ c.byte.ensures
          c.in-116.is);
      within = c.literal.ensures.within;
    }

pub returns-in-102 : goal.returns-in-102
returns-in-102 c =
    let args = c.args in record {
      means = c.literal-in-102.ensures.means ∙ sym
          (value-false 0 args.s.now args.at _ c.byte.ensures
          c.in-102.is);
      within = c.literal-in-102.ensures.within;
    }

pub returns-in-110 : goal.returns-in-110
returns-in-110 c =
    let args = c.args in record {
      means = c.literal-in-110.ensures.means ∙ sym
          (value-null 0 args.s.now args.at _ c.byte.ensures
          c.in-110.is);
      within = c.literal-in-110.ensures.within;
    }

pub returns-in_default : goal.returns-in_default
returns-in_default c =
    let args = c.args in record {
      means = sym (value-below args.s.now args.at _ c.byte.ensures (λ e. omega arith) (λ e. omega arith)
          (λ e. omega arith) (λ e. omega arith) (λ e. omega arith) (omega arith));
      within = tt;
    }

pub returns-in_default-2 : goal.returns-in_default-2
returns-in_default-2 c =
    let args = c.args in record {
      means = sym (value-above args.s.now args.at _ c.byte.ensures (λ e. omega arith)
          (λ e. omega arith) (λ e. omega arith) (λ e. omega arith) (λ e. omega arith) (omega arith));
      within = tt;
    }

pub returns-in-45 : goal.returns-in-45
returns-in-45 c =
    let args = c.args in
    let s = args.s.now in
    let number_is : value 0 s args.at ≡ number s args.at = elim c.in-45-1.branch [
      | in-45-1 w ↦ value-minus 0 s args.at _ c.byte.ensures (omega arith)
      | in_default+else-this-lt48+then-this-lt58 w ↦ value-digit 0 s args.at _ c.byte.ensures (omega arith) (omega arith)
    ] in record {
      means = c.number.ensures.means ∙ sym number_is;
      within = c.number.ensures.within;
    }
