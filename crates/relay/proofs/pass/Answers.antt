use mathlib.Core.Path.{◌≡◌, sym, ap, ap₂, ◌∙◌}
use Rattle.seq.specs.Bytes.{payload_of}
use Rattle.conversion.specs.Carried.{NotConvertible, carried, carried_by}
use Rattle.outgoing.specs.Layout.{Formats}
use Rattle.state.specs.Change.{formats_in}
use Rattle.model.specs.State.{session, format_at, owner}
use Rattle.model.specs.Step.{passed}
use Rattle.image.specs.Image.{held}
use Rattle.relay.proofs.pass.Goals as goal

pub returns-in_default : goal.returns-in_default
unfolding passed format_at session
returns-in_default c =
    let a = c.args in
    let f = formats_in a.sessions a.slot in
    let g = formats_in a.sessions (owner a.row) in
    let p = payload_of a.message.now a.c.payload in
    let from = c.format_at-from.ensures in
    let to = c.format_at-to.ensures ∙ ap (formats_in a.sessions) c.owner.ensures in
    let goes : carried_by _ c.carried.result ≡ carried _ _ p = c.carried.ensures in
    let none : carried f g p ≡ NotConvertible =
    ap₂ (λ x y. carried x y p) (sym from) (sym to) ∙ (sym goes ∙ ap (carried_by _) c.in_default.is) in
    λ t e. rw none (c.call_error.ensures (held a.state.now) _)

pub returns : goal.returns
unfolding passed format_at session
returns c =
    let a = c.args in
    let f = formats_in a.sessions a.slot in
    let g = formats_in a.sessions (owner a.row) in
    let p = payload_of a.message.now a.c.payload in
    let from = c.format_at-from.ensures in
    let to = c.format_at-to.ensures ∙ ap (formats_in a.sessions) c.owner.ensures in
    let goes : carried_by _ c.carried.result ≡ carried _ _ p = c.carried.ensures in
    let some = ap₂ (λ x y. carried x y p) (sym from) (sym to) ∙ (sym goes ∙ ap (carried_by _) c.in-Some.is) in
    λ t e. rw some (c.route.ensures _ ∙ rw (from, to, ap (λ (fs : Formats). fs (owner a.row)) e))
