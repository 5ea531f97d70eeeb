use Prim.Native.Nat.{ℕ}
use mathlib.Core.Bool.{Bool}
use mathlib.Core.List.{◌++◌}
use mathlib.Core.Path.{◌≡◌, refl, sym, ap, ◌∙◌}
use Rattle.seq.specs.Lists.{joined}
use Rattle.seq.specs.Bytes.{payload_of}
use Rattle.conversion.specs.Sources.{sources}
use Rattle.outgoing.specs.Layout.{Formats}
use Rattle.outgoing.specs.Outgoing.{uri_text}
use Rattle.outgoing.specs.declared.Uri.TheVariants as Uri
use Rattle.options.specs.Audience.{any_wrong}
use Rattle.incoming.specs.Read.{audience_in}
use Rattle.model.specs.State.{session, format_at}
use Rattle.model.specs.Step.{row_events, leaves_at, publishes, publish}
use Rattle.image.specs.Image.{with_sessions}
use Rattle.state.specs.Change.{in_set}
use Rattle.next.specs.declared.Publication.{Publication}
use Rattle.next.specs.Next.{published}
use Rattle.next.proofs.Laws.{events-any}
use Rattle.relay.proofs.Laws.{uri_refused}
use Rattle.relay.proofs.publish.Goals as goal

pub returns-then-any_wrong : goal.returns-then-any_wrong
unfolding publish
returns-then-any_wrong c = λ h f x e.
    let a = c.args in
    let chosen = c.options_in-chosen.ensures in
    let wrong = sym (ap any_wrong chosen) ∙ sym c.any_wrong.ensures ∙ c.if-any_wrong.true in
    let m = sources f a.message.now x a.topic.now in
    let told : uri_refused _ _ _ _ _ _ (c.refuse.ensures h m) ≡ uri_text Uri.InvalidArgument = refl in
    rw wrong (c.refuse.ensures h m)

pub returns-then-not-valid_published : goal.returns-then-not-valid_published
unfolding publish
returns-then-not-valid_published c = λ h f x e.
    let c3 = c in
    let chosen = c3.options_in-chosen.ensures in
    let right = sym (ap any_wrong chosen) ∙ sym c3.any_wrong.ensures ∙ c3.if-any_wrong.false in
    let invalid = sym c.valid_published.ensures ∙ c.if-not-valid_published.true in
    rw (right, invalid) (c.refuse-then-not-valid_published.ensures h _)

pub returns : goal.returns
unfolding publish publishes format_at session
returns c = λ h f x e.
    let c4 = c in
    let a = c4.args in
    let g = with_sessions h a.sessions in
    let m = sources f a.message.now x a.topic.now in
    let to = c.left_by.result in
    let q : Publication =
    record { slot = a.slot; request = a.p.request; acknowledge = a.p.acknowledge; id = a.publication; payload = a.p.payload } in
    let chosen = c4.options_in-chosen.ensures in
    let right = sym (ap any_wrong chosen) ∙ sym c4.any_wrong.ensures ∙ c4.if-any_wrong.false in
    let valid = sym c.valid_published.ensures ∙ c.if-not-valid_published.false in
    let who : in_set to ≡ leaves_at g a.slot (audience_in a.p.format a.message.now a.p.options) =
    c.left_by.ensures h ∙ ap (leaves_at g a.slot) chosen in
    rw (right, valid)
    (c.publishes.ensures h m
    ∙ ap (λ ms. record { hub = g; mails = published q ++ ms })
    (events-any h a.sessions (λ j. ap (λ (fs : Formats). fs j) (sym e)) m to q
    ∙ ap (λ (left : ℕ → Bool). joined (row_events g a.slot left a.publication m.text (payload_of m.message a.p.payload)) h.subscriptions.rows) who))
