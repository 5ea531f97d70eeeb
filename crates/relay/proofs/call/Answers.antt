use mathlib.Core.List.{[]}
use mathlib.Core.Path.{◌≡◌, refl, sym, ◌∙◌}
use Rattle.seq.specs.declared.Format.TheVariants.{Json}
use Rattle.conversion.specs.Sources.{sources}
use Rattle.outgoing.specs.Outgoing.{uri_text}
use Rattle.outgoing.specs.declared.Uri.TheVariants.{NoSuchProcedure}
use Rattle.model.specs.Step.{call}
use Rattle.image.specs.Image.{held}
use Rattle.relay.proofs.Laws.{uri_told}
use Rattle.relay.proofs.call.Goals as goal

pub returns-then-not-valid_called : goal.returns-then-not-valid_called
unfolding call
returns-then-not-valid_called c = λ e. rw (sym c.valid_called.ensures ∙ c.if-not-valid_called.true) (c.call_error.ensures (held c.args.state.now) _)

pub returns-in_default : goal.returns-in_default
unfolding call
returns-in_default c =
    let h = held c.args.state.now in
    let told : uri_told _ _ _ _ _ (c.call_error-in_default.ensures h (sources Json [] [] [])) ≡ uri_text NoSuchProcedure = refl in
    λ e. rw (
      sym c.valid_called.ensures ∙ c.if-not-valid_called.false,
      sym c.choose.ensures ∙ c.in_default.is,
    ) (c.call_error-in_default.ensures h _)

pub returns : goal.returns
unfolding call
returns c =
    λ e. rw (
      sym c.valid_called.ensures ∙ c.if-not-valid_called.false,
      sym c.choose.ensures ∙ c.in-Some.is,
    ) (c.pass.ensures _ e ∙ rw c.row-row.ensures)
