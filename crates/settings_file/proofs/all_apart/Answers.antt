use Prim.Native.Nat.{◌+◌}
use mathlib.Core.Bool.{true, false}
use mathlib.Core.Path.{◌≡◌, refl, sym, ap, ◌∙◌}
use native.Mathlib.Omega.{arith}
use lib.ListN.{drop}
use Rattle.seq.specs.Lists.{every}
use Rattle.settings.specs.Settings.{rules_apart}
use Rattle.settings.specs.Lent.{rule_of}
use Rattle.settings_file.specs.File.{rule_length, rules_in}
use Rattle.settings_file.proofs.Body.{whole-next, rule-long, pairs-past, pairs-passed, pairs-failed}
use Rattle.settings_file.proofs.all_apart.Goals as goal

pub loop-at-init : goal.loop-at-init
loop-at-init c = (c.requires, refl)

pub overflow_add-next : goal.overflow_add-next
overflow_add-next c =
    let w = whole-next c.args.body.now c.loop-at.at (omega arith) c.loop-at.invariant.0 in
    let n = c.rule_length.ensures in
    omega (arith, w.0)

pub none_like-requires : goal.none_like-requires
none_like-requires c =
    let w = whole-next c.args.body.now c.loop-at.at (omega arith) c.loop-at.invariant.0 in
    rw c.rule_length.ensures w.1

pub returns-then-not-none_like : goal.returns-then-not-none_like
returns-then-not-none_like c =
    let body = c.args.body.now in
    let at = c.loop-at.at in
    let f : every (rules_apart (rule_of (drop at body))) (rules_in (drop (at + rule_length (drop at body)) body)) ≡ false =
    ap (λ n. every (rules_apart (rule_of (drop at body))) (rules_in (drop (at + n) body))) (sym c.rule_length.ensures)
    ∙ sym c.none_like.ensures ∙ c.if-not-none_like.true in
    sym (c.loop-at.invariant.1 ∙ pairs-failed rules_apart body at (omega arith) f)

pub loop-at-smaller : goal.loop-at-smaller
loop-at-smaller c =
    let n = c.rule_length.ensures in
    let l = rule-long (drop c.loop-at.at c.args.body.now) in
    omega arith

pub loop-at-preserved : goal.loop-at-preserved
loop-at-preserved c =
    let body = c.args.body.now in
    let at = c.loop-at.at in
    let w = whole-next body at (omega arith) c.loop-at.invariant.0 in
    let t : every (rules_apart (rule_of (drop at body))) (rules_in (drop (at + rule_length (drop at body)) body)) ≡ true =
    ap (λ n. every (rules_apart (rule_of (drop at body))) (rules_in (drop (at + n) body))) (sym c.rule_length.ensures)
    ∙ sym c.none_like.ensures ∙ c.if-not-none_like.false in
    rw c.rule_length.ensures (w.1, c.loop-at.invariant.1 ∙ pairs-passed rules_apart body at (omega arith) t)

pub returns : goal.returns
returns c = sym (c.loop-at.invariant.1 ∙ pairs-past rules_apart c.args.body.now c.loop-at.at (omega arith))
