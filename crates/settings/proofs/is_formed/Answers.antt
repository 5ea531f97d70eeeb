use mathlib.Core.Path.{sym, ap, ◌∙◌}
use native.Mathlib.Omega.{arith}
use borrow.Author.Tests.{eq-eqb, ne_eqb}
use Rattle.seq.specs.Lists.{every}
use Rattle.seq.specs.Bytes.{is_zero}
use Rattle.settings.specs.Lent.{settings_size, padded, formed}
use Rattle.settings.proofs.Laws.{used-most}
use Rattle.settings.proofs.is_formed.Goals as goal

pub returns-then-settings-ne4357 : goal.returns-then-settings-ne4357
unfolding formed
returns-then-settings-ne4357 c = rw (ne_eqb _ settings_size c.if-settings-ne4357.true)

pub returns-then-not-is_padded : goal.returns-then-not-is_padded
unfolding formed
returns-then-not-is_padded c =
    let p = c.is_padded.ensures ∙ ap padded c.text.ensures in
    rw (eq-eqb _ settings_size c.if-settings-ne4357.false, sym p ∙ c.if-not-is_padded.true)

pub returns-then-not-rows_formed : goal.returns-then-not-rows_formed
unfolding formed
returns-then-not-rows_formed c =
    let p = c.is_padded.ensures ∙ ap padded c.text.ensures in
    rw (
      eq-eqb _ settings_size c.if-settings-ne4357.false,
      sym p ∙ c.if-not-is_padded.false,
      sym c.rows_formed.ensures ∙ c.if-not-rows_formed.true,
    )

pub overflow_mul-n : goal.overflow_mul-n
overflow_mul-n c = omega (arith, used-most c.args.settings.now)

pub overflow_add-n : goal.overflow_add-n
overflow_add-n c = omega (arith, used-most c.args.settings.now)

pub returns : goal.returns
unfolding formed
returns c =
    let p = c.is_padded.ensures ∙ ap padded c.text.ensures in
    rw (
      eq-eqb _ settings_size c.if-settings-ne4357.false,
      sym p ∙ c.if-not-is_padded.false,
      sym c.rows_formed.ensures ∙ c.if-not-rows_formed.false,
      ← c.requires,
    )
    (c.all_zero.ensures ∙ ap (every is_zero) c.text-2.ensures)
