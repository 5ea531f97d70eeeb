use Prim.Native.Nat.{◌+◌}
use mathlib.Core.Path.{◌≡◌, ap, ◌∙◌}
use native.Mathlib.Omega.{arith}
use lib.ListN.{length, drop}
use Rattle.settings_file.specs.File.{rules_in}
use Rattle.settings_file.proofs.Body.{rules-at, rules-past, whole-next, rule-long}
use Rattle.settings_file.proofs.rule_count.Goals as goal

pub loop-at-init : goal.loop-at-init
loop-at-init c =
    let z : length (rules_in c.args.body.now) ≡ 0 + length (rules_in c.args.body.now) = omega arith in
    (omega arith, omega arith, c.requires, z)

pub overflow_add-at : goal.overflow_add-at
overflow_add-at c =
    let at = c.loop-at.at in
    let body = c.args.body.now in
    let n = c.rule_length-at.ensures in
    let w = whole-next body at (omega arith) c.loop-at.invariant.2 in
    omega (arith, w.0)

pub loop-at-smaller : goal.loop-at-smaller
loop-at-smaller c =
    let body = c.args.body.now in
    let n = c.rule_length-at.ensures in
    let l = rule-long (drop c.loop-at.at body) in
    omega arith

pub loop-at-preserved : goal.loop-at-preserved
loop-at-preserved c =
    let at = c.loop-at.at in
    let body = c.args.body.now in
    let n = c.rule_length-at.ensures in
    let l = rule-long (drop at body) in
    let w = whole-next body at (omega arith) c.loop-at.invariant.2 in
    let e = ap length (rules-at body at (omega arith)) in
    rw n
    (omega (arith, w.0), omega arith, w.1, c.loop-at.invariant.3 ∙ omega (arith, e))

pub returns : goal.returns
returns c =
    let body = c.args.body.now in
    let e = ap length (rules-past body c.loop-at.at (omega arith)) in
    omega (arith, e, c.loop-at.invariant.3)
