use mathlib.Core.Path.{sym, ◌∙◌}
use Rattle.script.proofs.Laws.{number-none, number-other, number_is}
use Rattle.script.proofs.number_of.Goals as goal

pub returns-then-word-eq0 : goal.returns-then-word-eq0
returns-then-word-eq0 c = sym (number-none c.args.missing c.args.word.now c.if-word-eq0.true)

pub returns-then-not-only_digits : goal.returns-then-not-only_digits
returns-then-not-only_digits c =
    let args = c.args in
    sym (number-other args.missing args.word.now (sym c.only_digits.ensures ∙ c.if-not-only_digits.true))

pub returns : goal.returns
returns c =
    let args = c.args in
    let all = sym c.only_digits.ensures ∙ c.if-not-only_digits.false in
    c.value.ensures ∙ sym (number_is args.missing args.word.now c.if-word-eq0.false all)
