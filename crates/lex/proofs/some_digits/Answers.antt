use Rattle.std.specs.Prelude.{Some}
use mathlib.Core.Path.{◌≡◌, refl, sym, ap, ◌∙◌}
use mathlib.Core.Bool.{true}
use Prim.Native.Nat.{◌<◌}
use native.Mathlib.Omega.{arith}
use lib.ListN.{length}
use Rattle.seq.specs.Bytes.{is_digit, byte_at}
use Rattle.seq.proofs.Bytes.{test_in}
use Rattle.lex.proofs.Laws.{some-yes, some-no}
use Rattle.lex.proofs.some_digits.Goals as goal

here : (c : goal.Then-is_digit) → is_digit (byte_at c.args.s.now c.args.at) ≡ true
here c = sym (c.is_digit.ensures ∙ ap is_digit c.byte.ensures) ∙ c.if-is_digit.true

inside : (c : goal.Then-is_digit) → c.args.at < length c.args.s.now
inside c = test_in is_digit c.args.s.now c.args.at refl (here c)

pub overflow_add-at : goal.overflow_add-at
overflow_add-at c = let h = inside c in omega arith

pub digits-requires : goal.digits-requires
digits-requires c = let h = inside c in omega arith

pub returns-then-is_digit : goal.returns-then-is_digit
returns-then-is_digit c =
    let args = c.args in record {
      means = ap Some c.digits.ensures.means ∙ sym (some-yes args.s.now args.at
          (sym (c.is_digit.ensures ∙ ap is_digit c.byte.ensures) ∙ c.if-is_digit.true));
      within = omega arith;
    }

pub returns-else-is_digit : goal.returns-else-is_digit
returns-else-is_digit c =
    let args = c.args in record {
      means = sym (some-no args.s.now args.at
          (sym (c.is_digit.ensures ∙ ap is_digit c.byte.ensures) ∙ c.if-is_digit.false));
      within = tt;
    }
