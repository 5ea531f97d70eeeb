use mathlib.Core.Path.{refl, ◌∙◌}
use native.Mathlib.Omega.{arith}
use lib.ListN.{drop}
use Rattle.buffer.proofs.Wrote.{told, tells, wrote-length}
use Rattle.settings.specs.Lent.{rule_of, rule_bytes}
use Rattle.settings_file.proofs.Body.{whole-next, rule-long}
use Rattle.settings_io.proofs.Laws.{putting-begins, putting-good, putting-goes, putting-ends}
use Rattle.settings_io.proofs.put_rules.Goals as goal

pub loop-i-init : goal.loop-i-init
loop-i-init c =
    let start = c in
    (putting-begins _ _ _ (omega arith) start.requires.0 start.requires.1, refl)

pub put_rule-o-requires : goal.put_rule-o-requires
put_rule-o-requires c = rw c.from.ensures (putting-good c.loop-i.invariant.0 (omega arith))

pub overflow_add-i : goal.overflow_add-i
overflow_add-i c =
    let l = c.loop-i in
    let w = whole-next c.args.body.now l.i (omega arith) l.invariant.0.whole in
    let n = c.rule_length-i.ensures in
    omega (arith, w.0)

pub loop-i-smaller : goal.loop-i-smaller
loop-i-smaller c =
    let n = c.rule_length-i.ensures in
    let l = rule-long (drop c.loop-i.i c.args.body.now) in
    omega arith

pub loop-i-preserved : goal.loop-i-preserved
loop-i-preserved c =
    let l = c.loop-i in
    let body = c.args.body.now in
    let w = told _ _ (rule_bytes (rule_of (drop l.i body))) (rw c.from.ensures at c.put_rule-o.ensures) in
    rw c.rule_length-i.ensures (putting-goes l.invariant.0 (omega arith) (omega arith) w, wrote-length w ∙ l.invariant.1)

pub returns : goal.returns
returns c =
    let l = c.loop-i in
    tells (putting-ends l.invariant.0 (omega arith))
