use mathlib.Core.Path.{sym, ◌∙◌}
use native.Mathlib.Omega.{arith}
use lib.ListN.{length}
use Rattle.lex.proofs.Laws.{number-bad, number-bad-fraction, number_is, within-to, from-to, within-after}
use Rattle.lex.proofs.number.Goals as goal

pub returns-in_err-i-clause-means : goal.returns-in_err-i-clause-means
returns-in_err-i-clause-means c =
    rw c.from_residual.ensures (sym (number-bad c.args.s.now c.args.at _ c.minus.ensures.means (sym c.integer.ensures.means ∙ c.in_err-i.was)))

pub fraction-requires : goal.fraction-requires
fraction-requires c =
    let w = within-to c.minus.result (length c.args.s.now) c.in_ok-i.was c.integer.ensures.within in
    omega arith

pub returns-in_err-f-clause-means : goal.returns-in_err-f-clause-means
returns-in_err-f-clause-means c =
    rw c.from_residual-in_err-f.ensures
    (sym (number-bad-fraction c.args.s.now c.args.at _ _ c.minus.ensures.means (sym c.integer.ensures.means ∙ c.in_ok-i.was)
    (sym c.fraction.ensures.means ∙ c.in_err-f.was)))

pub exponent-requires : goal.exponent-requires
exponent-requires c =
    let w = from-to c.in_ok-i.i (length c.args.s.now) c.in_ok-f.was c.fraction.ensures.within in
    omega arith

pub returns : goal.returns
returns c =
    let s = c.args.s.now in
    let v = within-to c.minus.result (length s) c.in_ok-i.was c.integer.ensures.within in
    let w = from-to c.in_ok-i.i (length s) c.in_ok-f.was c.fraction.ensures.within in record {
      means = c.exponent.ensures.means ∙ sym (number_is s c.args.at _ _ c.minus.ensures.means (sym c.integer.ensures.means ∙ c.in_ok-i.was) _
          (sym c.fraction.ensures.means ∙ c.in_ok-f.was));
      within = within-after c.exponent.result c.args.at c.in_ok-f.f (length s) (omega arith) c.exponent.ensures.within;
    }
