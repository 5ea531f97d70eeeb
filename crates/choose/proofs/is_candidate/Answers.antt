use mathlib.Core.Path.{◌≡◌, refl, sym, ap, ◌∙◌}
use borrow.Author.Tests.{eq-eqb, ne_eqb}
use Rattle.seq.proofs.Logic.{and-false}
use Rattle.uri.specs.Uri.{same_policy}
use Rattle.pattern.specs.Choice.{fits_row, candidate}
use Rattle.model.specs.State.{row_at}
use Rattle.image.specs.Image.{held}
use Rattle.choose.proofs.is_candidate.Goals as goal

pub returns-then-number-eq0 : goal.returns-then-number-eq0
unfolding candidate fits_row
returns-then-number-eq0 c =
    let args = c.args in
    let r = row_at (held args.state.now).registrations args.k in
    rw (eq-eqb _ _ (sym c.number.ensures ∙ c.if-number-eq0.true)) (sym (and-false (same_policy r.policy args.policy) _ refl))

pub returns-then-not-same_policy : goal.returns-then-not-same_policy
unfolding candidate
returns-then-not-same_policy c =
    let args = c.args in
    let policy = c.policy-own in
    let r = row_at (held args.state.now).registrations args.k in
    let p : c.same_policy.result ≡ same_policy r.policy args.policy =
    c.same_policy.ensures ∙ ap (λ q. same_policy q args.policy) policy.ensures in
    rw (sym p ∙ c.if-not-same_policy.true)

pub returns : goal.returns
unfolding candidate fits_row
returns c =
    let args = c.args in
    let number = c.number in
    let if1 = c.if-number-eq0 in
    let policy = c.policy-own in
    let same-policy = c.same_policy in
    let if2 = c.if-not-same_policy in
    let r = row_at (held args.state.now).registrations args.k in
    let p : same-policy.result ≡ same_policy r.policy args.policy =
    same-policy.ensures ∙ ap (λ q. same_policy q args.policy) policy.ensures in
    rw (sym p ∙ if2.false, ne_eqb _ _ (λ e. if1.false (number.ensures ∙ e)), ← policy.ensures, ← c.text.ensures)
    c.fits.ensures
