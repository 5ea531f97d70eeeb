use mathlib.Core.Path.{◌≡◌, ap, ◌∙◌}
use lib.ListN.{length}
use Rattle.outgoing.specs.Layout.{formats_of}
use Rattle.state.specs.Change.{formats_in}
use Rattle.model.specs.State.{format_at}
use Rattle.model.specs.Step.{fitted}
use Rattle.image.specs.Image.{held}
use Rattle.hub.specs.Answer.{answer_of, written, kept}
use Rattle.hub.proofs.complete.Goals as goal

pub returns : goal.returns
returns c =
    let a = c.args in
    let s = a.state.now in
    let h = held s in
    let room = length a.out.now in
    let ran = rw c.format_at-from.ensures at c.finish.ensures in
    let speaks : formats_of c.packed-packed.result ≡ formats_in a.sessions = c.packed-packed.ensures in record {
      answer = (λ e. ran.answer (speaks ∙ e) ∙ ap answer_of (ap (fitted h room) (c.leads_to-next.ensures e)));
      state = (λ e ok. ran.state (speaks ∙ e) ok ∙ ap (λ t. kept t s) (ap (fitted h room) (c.leads_to-next.ensures e)));
      bytes = (λ e. ran.bytes (speaks ∙ e) ∙ ap (λ t. written (format_at h) t a.out.now) (ap (fitted h room) (c.leads_to-next.ensures e)));
    }
