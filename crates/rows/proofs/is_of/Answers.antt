use mathlib.Core.Path.{sym, ap, ◌∙◌}
use borrow.Author.Tests.{eq-eqb, ne_eqb}
use Rattle.seq.specs.Bytes.{same}
use Rattle.uri.specs.Uri.{same_policy}
use Rattle.model.specs.State.{is_of}
use Rattle.rows.proofs.is_of.Goals as goal

pub returns-then-number-eq0 : goal.returns-then-number-eq0
unfolding is_of
returns-then-number-eq0 c = rw (eq-eqb _ _ (sym c.number.ensures ∙ c.if-number-eq0.true))

pub returns-then-not-same_policy : goal.returns-then-not-same_policy
unfolding is_of
returns-then-not-same_policy c =
    let args = c.args in
    let n = c.number.ensures in
    let p = c.same_policy.ensures ∙ ap (λ q. same_policy q args.policy) c.policy.ensures in
    rw (ne_eqb _ _ (λ e. c.if-number-eq0.false (n ∙ e)), sym p ∙ c.if-not-same_policy.true)

pub returns : goal.returns
unfolding is_of
returns c =
    let args = c.args in
    let n = c.number.ensures in
    let p = c.same_policy.ensures ∙ ap (λ q. same_policy q args.policy) c.policy.ensures in
    rw (ne_eqb _ _ (λ e. c.if-number-eq0.false (n ∙ e)), sym p ∙ c.if-not-same_policy.false)
    (c.same_bytes.ensures ∙ ap (λ t. same t args.text.now) c.text.ensures)
