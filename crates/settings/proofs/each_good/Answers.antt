use Prim.Native.Nat.{◌-◌, ◌<◌}
use mathlib.Core.Path.{refl, sym, ap, ◌∙◌}
use native.Mathlib.Omega.{arith}
use lib.ListN.{length}
use Rattle.seq.proofs.Lists.{every-fail, every-pass, every-end}
use mathlib.Core.List.{[]}
use Rattle.settings.specs.Settings.{rule_good}
use Rattle.settings.specs.Lent.{rule_of, used_rows, settings_of}
use Rattle.settings.proofs.Laws.{used-most, rules-count, used-rule}
use Rattle.settings.proofs.each_good.Goals as goal

pub loop-k-init : goal.loop-k-init
loop-k-init c = refl

pub row-requires : goal.row-requires
row-requires c = omega (arith, used-most c.args.settings.now)

pub returns-then-not-rule_good : goal.returns-then-not-rule_good
returns-then-not-rule_good c =
    let loop = c.loop-k in
    let s = c.args.settings.now in
    let n : loop.k < length (used_rows s) = omega (arith, c.requires) in
    let l : loop.k < length (settings_of s).rules = rw (rules-count s) n in
    let r = ap rule_good (used-rule s loop.k n) ∙ sym (c.rule_good.ensures ∙ ap (λ r. rule_good (rule_of r)) c.row.ensures) in
    sym (loop.invariant ∙ every-fail rule_good (settings_of s).rules loop.k (rule_of []) l (r ∙ c.if-not-rule_good.true))

pub loop-k-preserved : goal.loop-k-preserved
loop-k-preserved c =
    let loop = c.loop-k in
    let s = c.args.settings.now in
    let n : loop.k < length (used_rows s) = omega (arith, c.requires) in
    let l : loop.k < length (settings_of s).rules = rw (rules-count s) n in
    let r = ap rule_good (used-rule s loop.k n) ∙ sym (c.rule_good.ensures ∙ ap (λ r. rule_good (rule_of r)) c.row.ensures) in
    (loop.invariant ∙ every-pass rule_good (settings_of s).rules loop.k (rule_of []) l (r ∙ c.if-not-rule_good.false))

pub returns : goal.returns
returns c =
    let loop = c.loop-k in
    let s = c.args.settings.now in
    sym (loop.invariant ∙ every-end rule_good (settings_of s).rules loop.k (omega (arith, c.requires, rules-count s)))
