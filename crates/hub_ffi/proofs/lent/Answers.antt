use mathlib.Core.Path.{ap, ◌∙◌}
use Rattle.model.specs.Step.{refusal}
use Rattle.hub_ffi.specs.Boundary.{packed}
use Rattle.hub_ffi.proofs.Room.{lent-enough}
use Rattle.hub_ffi.proofs.lent.Goals as goal

pub packed-requires : goal.packed-requires
packed-requires c = rw (ap (λ t. t.count) c.step-stepped.ensures.answer) (lent-enough _ _ _)

pub returns : goal.returns
returns c =
    let ran = c.step-stepped.ensures in record {
      answer = c.packed.ensures ∙ rw c.refusal.ensures (ap (λ t. packed t.count (refusal t.outcome)) ran.answer);
      state = ran.state;
      bytes = ran.bytes;
    }
