use Prim.Native.Nat.{◌+◌, ◌-◌}
use mathlib.Core.Bool.{true, false, ◌&&◌}
use mathlib.Core.List.{map}
use mathlib.Core.Path.{◌≡◌, sym, ap, ap₂, ◌∙◌}
use native.Mathlib.Omega.{arith}
use lib.Dec.{eqb, ltb}
use lib.ListN.{length}
use Rattle.seq.specs.Bytes.{byte_at}
use Rattle.settings.specs.Settings.{fits, decided, allowed}
use Rattle.settings.specs.Lent.{rule_of, unused, settings_of}
use Rattle.settings.proofs.Laws.{rule_row, used_from, used-hit, used-end, rules-start, decided-end, decided-new, decided-old}
use Rattle.settings.proofs.allowed.Goals.{else-decides, then-decides}
use Rattle.settings.proofs.allowed.Goals as goal

pub loop-k-init : goal.loop-k-init
loop-k-init c =
    let args = c.args in
    (ap (decided (fits args.slot c.action_number-number.result args.text.now) 0 true) (rules-start args.settings.now))

pub returns-then-is_unused : goal.returns-then-is_unused
unfolding allowed
returns-then-is_unused c =
    let args = c.args in
    let loop = c.loop-k in
    let s = args.settings.now in
    let fit = fits args.slot c.action_number-number.result args.text.now in
    let u : unused (rule_row s loop.k) ≡ true = sym (c.is_unused.ensures ∙ ap unused c.row-b.ensures) ∙ c.if-is_unused.true in
    let e = loop.invariant ∙ decided-end fit loop.best loop.yes s loop.k (used-hit s loop.k (omega arith) u) in
    sym (ap (λ n. decided (fits args.slot n args.text.now) 0 true (settings_of s).rules) (sym c.action_number-number.ensures) ∙ e)

pub loop-k-preserved : goal.loop-k-preserved
unfolding rule_of
loop-k-preserved c =
    let args = c.args in
    let loop = c.loop-k in
    let s = args.settings.now in
    let k = loop.k in
    let fit = fits args.slot c.action_number-number.result args.text.now in
    let row = c.row-b.ensures in
    let u : unused (rule_row s k) ≡ false = sym (c.is_unused.ensures ∙ ap unused row) ∙ c.if-is_unused.false in
    let d = c.decides.ensures ∙ ap (λ r. fit (rule_of r) && ltb loop.best (length (rule_of r).prefix)) row in (
    loop.invariant
    ∙ elim c.if-decides.branch [
      | then-decides w ↦ decided-new fit loop.best loop.yes s k (omega arith) u (sym d ∙ w.if-decides.true)
          ∙ ap₂ (λ n y. decided fit n y (map rule_of (used_from s (k + 1))))
          (sym (w.best-is ∙ ap length (w.prefix-best.ensures ∙ ap (λ r. (rule_of r).prefix) row)))
          (sym (w.yes-is ∙ ap (λ v. eqb v 1) (w.byte-yes.ensures ∙ ap (λ r. byte_at r 2) row)))
      | else-decides w ↦ decided-old fit loop.best loop.yes s k (omega arith) u (sym d ∙ w.if-decides.false)
          ∙ ap₂ (λ n y. decided fit n y (map rule_of (used_from s (k + 1)))) (sym w.best-is) (sym w.yes-is)
    ]
    )

pub returns : goal.returns
unfolding allowed
returns c =
    let args = c.args in
    let loop = c.loop-k in
    let s = args.settings.now in
    let fit = fits args.slot c.action_number-number.result args.text.now in
    let e = loop.invariant ∙ decided-end fit loop.best loop.yes s loop.k (used-end s loop.k (omega arith)) in
    sym (ap (λ n. decided (fits args.slot n args.text.now) 0 true (settings_of s).rules) (sym c.action_number-number.ensures) ∙ e)
