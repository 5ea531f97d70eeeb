use Prim.Native.Nat.{◌-◌}
use mathlib.Core.Path.{sym, ap, ◌∙◌}
use native.Mathlib.Omega.{arith}
use lib.ListN.{length}
use Rattle.settings.specs.Lent.{unused}
use Rattle.settings.proofs.Laws.{used_start, used-hit, used-miss, used-end}
use Rattle.settings.proofs.used.Goals as goal

pub loop-k-init : goal.loop-k-init
loop-k-init c =
    let e = ap length (used_start c.args.settings.now) in
    omega arith

pub returns-then-is_unused : goal.returns-then-is_unused
returns-then-is_unused c =
    let loop = c.loop-k in
    let s = c.args.settings.now in
    let e = c.is_unused.ensures ∙ ap unused c.row.ensures in
    omega (arith, ap length (used-hit s loop.k (omega arith) (sym e ∙ c.if-is_unused.true)))

pub loop-k-preserved : goal.loop-k-preserved
loop-k-preserved c =
    let loop = c.loop-k in
    let s = c.args.settings.now in
    let e = c.is_unused.ensures ∙ ap unused c.row.ensures in
    let l = ap length (used-miss s loop.k (omega arith) (sym e ∙ c.if-is_unused.false)) in
    omega arith

pub returns : goal.returns
returns c =
    let loop = c.loop-k in
    omega (arith, ap length (used-end c.args.settings.now loop.k (omega arith)))
