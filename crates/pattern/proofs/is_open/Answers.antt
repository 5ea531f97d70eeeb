use mathlib.Core.Path.{sym, ◌∙◌}
use native.Mathlib.Omega.{arith}
use Rattle.pattern.specs.Along.{is_start, is_open}
use Rattle.pattern.proofs.Along.{end_is, start-behind}
use Rattle.pattern.proofs.is_open.Goals as goal

pub returns-then-not-is_end : goal.returns-then-not-is_end
unfolding is_open
returns-then-not-is_end c = rw (sym c.is_end.ensures ∙ c.if-not-is_end.true)

pub returns-then-at-eq0 : goal.returns-then-at-eq0
unfolding is_open is_start
returns-then-at-eq0 c = rw (sym c.is_end.ensures ∙ c.if-not-is_end.false, c.if-at-eq0.true)

pub bounds-text-at : goal.bounds-text-at
bounds-text-at c =
    let args = c.args in
    let is-end = c.is_end in
    let if1 = c.if-not-is_end in
    let if2 = c.if-at-eq0 in
    omega (arith, if2.false, (end_is args.text.now args.at (sym is-end.ensures ∙ if1.false)).0)

pub returns : goal.returns
unfolding is_open
returns c = rw (sym c.is_end.ensures ∙ c.if-not-is_end.false, start-behind _ _ c.if-at-eq0.false)
