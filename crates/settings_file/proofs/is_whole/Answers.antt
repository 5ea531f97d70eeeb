use Prim.Native.Nat.{◌-◌}
use mathlib.Core.Path.{refl, sym, ◌∙◌}
use native.Mathlib.Omega.{arith}
use borrow.Author.Tests.{lt-leb, le-leb}
use lib.ListN.{length, drop}
use Rattle.settings_file.specs.File.{rule_length}
use Rattle.settings_file.proofs.Body.{whole-at, whole-past, rule-long}
use Rattle.settings_file.proofs.is_whole.Goals as goal

pub loop-at-init : goal.loop-at-init
loop-at-init c = (omega arith, refl)

pub returns-then-body-at : goal.returns-then-body-at
returns-then-body-at c =
    let at = c.loop-at.at in
    let body = c.args.body.now in
    let n = c.rule_length-n.ensures in
    sym
    (c.loop-at.invariant.1
    ∙ whole-at body at (omega arith)
    ∙ rw (lt-leb (rule_length (drop at body)) (length body - at) (omega arith)) refl)

pub loop-at-smaller : goal.loop-at-smaller
loop-at-smaller c =
    let body = c.args.body.now in
    let n = c.rule_length-n.ensures in
    let l = rule-long (drop c.loop-at.at body) in
    omega arith

pub loop-at-preserved : goal.loop-at-preserved
loop-at-preserved c =
    let at = c.loop-at.at in
    let body = c.args.body.now in
    let n = c.rule_length-n.ensures in (
      omega arith,
      c.loop-at.invariant.1
          ∙ whole-at body at (omega arith)
          ∙ rw (le-leb (rule_length (drop at body)) (length body - at) (omega arith), n) refl,
    )

pub returns : goal.returns
returns c =
    let body = c.args.body.now in
    sym (c.loop-at.invariant.1 ∙ whole-past body c.loop-at.at (omega arith))
