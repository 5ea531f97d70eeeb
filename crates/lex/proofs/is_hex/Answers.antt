use mathlib.Core.Path.{sym, ◌∙◌}
use Rattle.lex.proofs.Laws.{hex-digit, hex-below, hex-upper, hex-between, hex-lower}
use Rattle.lex.proofs.is_hex.Goals as goal

pub returns-then-is_digit : goal.returns-then-is_digit
returns-then-is_digit c = sym (hex-digit c.args.b (sym c.is_digit.ensures ∙ c.if-is_digit.true))

pub returns-then-b-lt65 : goal.returns-then-b-lt65
returns-then-b-lt65 c =
    sym (hex-below c.args.b (sym c.is_digit.ensures ∙ c.if-is_digit.false) c.if-b-lt65.true)

pub returns-then-b-le70 : goal.returns-then-b-le70
returns-then-b-le70 c =
    let args = c.args in
    sym (hex-upper args.b (sym c.is_digit.ensures ∙ c.if-is_digit.false) c.if-b-lt65.false
    c.if-b-le70.true)

pub returns-then-b-lt97 : goal.returns-then-b-lt97
returns-then-b-lt97 c =
    let is-digit = c.is_digit in
    let args = c.args in
    sym (hex-between args.b (sym is-digit.ensures ∙ c.if-is_digit.false) c.if-b-le70.false c.if-b-lt97.true)

pub returns : goal.returns
returns c =
    let is-digit = c.is_digit in
    let args = c.args in
    sym (hex-lower args.b (sym is-digit.ensures ∙ c.if-is_digit.false) c.if-b-lt97.false)
