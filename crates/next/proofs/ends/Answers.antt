use mathlib.Core.Path.{ap, ◌∙◌}
use Rattle.model.specs.State.{ended}
use Rattle.model.specs.Step.{ends}
use Rattle.next.specs.Next.{next_of}
use Rattle.next.proofs.ends.Goals as goal

pub returns : goal.returns
unfolding ends ended
returns c =
    λ h m. ap (next_of h m) c.plain.ensures ∙ rw (c.with_session-after.ensures, c.with_status-s.ensures)
