use Rattle.hub.proofs.Sends.{publication-sent}
use mathlib.Core.Path.{ap₂, ◌∙◌}
use Rattle.outgoing.specs.Layout.{formats_of}
use Rattle.outbox.specs.Emit.{emitted, emitted_bytes}
use Rattle.image.specs.Image.{held}
use Rattle.hub.proofs.send_publication.Goals as goal

pub returns : goal.returns
returns c =
    let a = c.args in
    let h = held a.state.now in
    let x = c.emit.ensures in record {
      answer = (λ f k e. x.answer ∙ ap₂ (λ fs ms. emitted fs ms a.out.now) e
          (publication-sent h a.p a.to a.message.now a.text.now _ (formats_of a.packed) c.format_at-from.result c.events-rows.result
          c.crossed-other.result c.acknowledged-own.result c.publishing-outbox.result e c.format_at-from.ensures c.events-rows.ensures
          c.crossed-other.ensures c.acknowledged-own.ensures c.publishing-outbox.ensures f k));
      bytes = (λ f k e. x.bytes ∙ ap₂ (λ fs ms. emitted_bytes fs ms a.out.now) e
          (publication-sent h a.p a.to a.message.now a.text.now _ (formats_of a.packed) c.format_at-from.result c.events-rows.result
          c.crossed-other.result c.acknowledged-own.result c.publishing-outbox.result e c.format_at-from.ensures c.events-rows.ensures
          c.crossed-other.ensures c.acknowledged-own.ensures c.publishing-outbox.ensures f k));
    }
