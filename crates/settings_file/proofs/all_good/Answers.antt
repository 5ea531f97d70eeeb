use mathlib.Core.Bool.{true, false}
use mathlib.Core.Path.{◌≡◌, refl, sym, ◌∙◌}
use native.Mathlib.Omega.{arith}
use lib.ListN.{drop}
use Rattle.settings.specs.Settings.{rule_good}
use Rattle.settings.specs.Lent.{rule_of}
use Rattle.settings_file.proofs.Body.{whole-next, rule-long, every-past, every-passed, every-failed}
use Rattle.settings_file.proofs.all_good.Goals as goal

pub loop-at-init : goal.loop-at-init
loop-at-init c = (c.requires, refl)

pub returns-then-not-rule_good : goal.returns-then-not-rule_good
returns-then-not-rule_good c =
    let body = c.args.body.now in
    let at = c.loop-at.at in
    let f : rule_good (rule_of (drop at body)) ≡ false = rw (sym c.from.ensures, sym c.rule_good.ensures) (c.if-not-rule_good.true) in
    sym (c.loop-at.invariant.1 ∙ every-failed rule_good body at (omega arith) f)

pub overflow_add-at : goal.overflow_add-at
overflow_add-at c =
    let w = whole-next c.args.body.now c.loop-at.at (omega arith) c.loop-at.invariant.0 in
    let n = c.rule_length-at.ensures in
    omega (arith, w.0)

pub loop-at-smaller : goal.loop-at-smaller
loop-at-smaller c =
    let n = c.rule_length-at.ensures in
    let l = rule-long (drop c.loop-at.at c.args.body.now) in
    omega arith

pub loop-at-preserved : goal.loop-at-preserved
loop-at-preserved c =
    let body = c.args.body.now in
    let at = c.loop-at.at in
    let w = whole-next body at (omega arith) c.loop-at.invariant.0 in
    let t : rule_good (rule_of (drop at body)) ≡ true = rw (sym c.from.ensures, sym c.rule_good.ensures) (c.if-not-rule_good.false) in
    rw c.rule_length-at.ensures (w.1, c.loop-at.invariant.1 ∙ every-passed rule_good body at (omega arith) t)

pub returns : goal.returns
returns c = sym (c.loop-at.invariant.1 ∙ every-past rule_good c.args.body.now c.loop-at.at (omega arith))
