use mathlib.Core.Bool.{true, false}
use mathlib.Core.Path.{◌≡◌, refl, sym, ◌∙◌}
use native.Mathlib.Omega.{arith}
use lib.ListN.{drop}
use Rattle.settings.specs.Settings.{rules_apart}
use Rattle.settings.specs.Lent.{rule_of}
use Rattle.settings_file.proofs.Body.{whole-next, rule-long, every-past, every-passed, every-failed}
use Rattle.settings_file.proofs.none_like.Goals as goal

pub loop-i-init : goal.loop-i-init
loop-i-init c = (c.requires, refl)

pub returns-then-not-rules_apart : goal.returns-then-not-rules_apart
returns-then-not-rules_apart c =
    let args = c.args in
    let body = args.body.now in
    let q = rules_apart (rule_of (drop args.at body)) in
    let i = c.loop-i.i in
    let r : c.from-in-loop-i.result.now ≡ drop i body = c.from-in-loop-i.ensures in
    let f : q (rule_of (drop i body)) ≡ false =
    rw (sym c.from.ensures, sym r, sym c.rules_apart.ensures) (c.if-not-rules_apart.true) in
    sym (c.loop-i.invariant.1 ∙ every-failed q body i (omega arith) f)

pub overflow_add-i : goal.overflow_add-i
overflow_add-i c =
    let w = whole-next c.args.body.now c.loop-i.i (omega arith) c.loop-i.invariant.0 in
    let n = c.rule_length-i.ensures in
    omega (arith, w.0)

pub loop-i-smaller : goal.loop-i-smaller
loop-i-smaller c =
    let n = c.rule_length-i.ensures in
    let l = rule-long (drop c.loop-i.i c.args.body.now) in
    omega arith

pub loop-i-preserved : goal.loop-i-preserved
loop-i-preserved c =
    let args = c.args in
    let body = args.body.now in
    let q = rules_apart (rule_of (drop args.at body)) in
    let i = c.loop-i.i in
    let w = whole-next body i (omega arith) c.loop-i.invariant.0 in
    let t : q (rule_of (drop i body)) ≡ true =
    rw (sym c.from.ensures, sym c.from-in-loop-i.ensures, sym c.rules_apart.ensures) (c.if-not-rules_apart.false) in
    rw c.rule_length-i.ensures (w.1, c.loop-i.invariant.1 ∙ every-passed q body i (omega arith) t)

pub returns : goal.returns
returns c =
    let args = c.args in
    let q = rules_apart (rule_of (drop args.at args.body.now)) in
    sym (c.loop-i.invariant.1 ∙ every-past q args.body.now c.loop-i.i (omega arith))
