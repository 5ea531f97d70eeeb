use Prim.Native.Nat.{◌+◌, ◌≤◌, ◌<◌}
use mathlib.Core.List.{[]}
use mathlib.Core.Path.{sym, ap₂, ◌∙◌}
use native.Mathlib.Omega.{arith}
use lib.ListN.{length}
use Rattle.seq.proofs.Lists.{every-end}
use Rattle.seq.proofs.Loops.{pairs_start, pairs-fail, pairs-pass, pairs_next, pairs_end}
use Rattle.settings.specs.Settings.{rules_apart}
use Rattle.settings.specs.Lent.{rule_of, used_rows, settings_of}
use Rattle.settings.proofs.Laws.{used-most, rules-count, used-rule}
use Rattle.settings.proofs.each_apart.Goals as goal

pub loop-i-init : goal.loop-i-init
loop-i-init c = pairs_start rules_apart (rule_of []) (settings_of c.args.settings.now).rules

pub row-a-requires : goal.row-a-requires
row-a-requires c = omega (arith, used-most c.args.settings.now)

pub row-b-requires : goal.row-b-requires
row-b-requires c = omega (arith, used-most c.args.settings.now)

pub returns-then-not-rules_apart : goal.returns-then-not-rules_apart
returns-then-not-rules_apart c =
    let i = c.loop-i.i in
    let j = c.loop-j.j in
    let s = c.args.settings.now in
    let h : i < length (used_rows s) = omega (arith, c.requires) in
    let k : j < length (used_rows s) = omega (arith, c.requires) in
    let a = ap₂ rules_apart (used-rule s i h) (used-rule s j k) in
    let r = c.rules_apart.ensures ∙ ap₂ (λ p q. rules_apart (rule_of p) (rule_of q)) c.row-a.ensures c.row-b.ensures in
    sym (c.loop-j.invariant ∙ pairs-fail rules_apart (rule_of []) (settings_of s).rules i j (rw (rules-count s) k) (a ∙ sym r ∙ c.if-not-rules_apart.true))

pub loop-j-preserved : goal.loop-j-preserved
loop-j-preserved c =
    let i = c.loop-i.i in
    let j = c.loop-j.j in
    let s = c.args.settings.now in
    let h : i < length (used_rows s) = omega (arith, c.requires) in
    let k : j < length (used_rows s) = omega (arith, c.requires) in
    let a = ap₂ rules_apart (used-rule s i h) (used-rule s j k) in
    let r = c.rules_apart.ensures ∙ ap₂ (λ p q. rules_apart (rule_of p) (rule_of q)) c.row-a.ensures c.row-b.ensures in
    c.loop-j.invariant ∙ pairs-pass rules_apart (rule_of []) (settings_of s).rules i j (rw (rules-count s) k) (a ∙ sym r ∙ c.if-not-rules_apart.false)

pub loop-i-preserved : goal.loop-i-preserved
loop-i-preserved c =
    let j = c.loop-j.j in
    let s = c.args.settings.now in
    let xs = (settings_of s).rules in
    let l : length xs ≤ j = omega (arith, rules-count s, c.requires) in
    c.loop-j.invariant ∙ pairs_next rules_apart (rule_of []) xs c.loop-i.i j (every-end _ xs j l)

pub returns : goal.returns
returns c =
    let i = c.loop-i.i in
    let s = c.args.settings.now in
    let l = rules-count s in
    let p = c.requires in
    sym (c.loop-i.invariant ∙ pairs_end rules_apart (rule_of []) (settings_of s).rules i (i + 1) (omega arith) (omega arith))
