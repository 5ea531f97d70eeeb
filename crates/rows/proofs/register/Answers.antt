use Rattle.image.specs.Image.{held}
use mathlib.Core.Path.{sym, ◌∙◌}
use Rattle.uri.specs.Uri.{valid_procedure}
use Rattle.uri.proofs.Uses.{short-procedure}
use Rattle.model.specs.Step.{register}
use Rattle.rows.proofs.Laws.{valid-whole}
use Rattle.rows.proofs.register.Goals as goal

pub returns-in_default : goal.returns-in_default
unfolding register
returns-in_default c =
    let h = held c.args.state.now in
    λ m. rw c.in_default.is (c.refuses.ensures h m)

pub returns-then-not-valid_procedure : goal.returns-then-not-valid_procedure
unfolding register
returns-then-not-valid_procedure c =
    let h = held c.args.state.now in
    λ m. rw (c.in-Some.is, sym c.valid_procedure.ensures ∙ c.if-not-valid_procedure.true) (c.refuses-then-not-valid_procedure.ensures h m)

pub returns-in_default-row_of : goal.returns-in_default-row_of
unfolding register
returns-in_default-row_of c =
    let h = held c.args.state.now in
    let v = sym c.valid_procedure.ensures ∙ c.if-not-valid_procedure.false in
    λ m. rw (c.in-Some.is, v, sym c.row_of.ensures ∙ c.in_default-row_of.is) (c.refuses-in_default-row_of.ensures h m)

pub returns : goal.returns
unfolding register
returns c =
    let v = sym c.valid_procedure.ensures ∙ c.if-not-valid_procedure.false in
    λ m. rw (c.in-Some.is, v, sym c.row_of.ensures ∙ c.in-None.is)
    (c.register_new.ensures m ∙ rw (valid-whole valid_procedure short-procedure _ _ v))
