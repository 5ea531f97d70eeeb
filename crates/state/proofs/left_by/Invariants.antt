use mathlib.Core.Path.{◌≡◌}
use lib.Dec.{eqb}
use lib.ListN.{length, get_or}
use Rattle.options.specs.Audience.{leaves}
use Rattle.options.specs.Meaning.{audience_of}
use Rattle.model.specs.State.{no_session}
use Rattle.state.proofs.Laws.{Stored}
use Rattle.state.proofs.left_by.Given as goal

abbrev pub invariant-loop-i : goal.invariant-loop-i
invariant-loop-i l =
    (length l.all ≡ 8) × Stored (λ k. leaves (audience_of l.o) (eqb k l.slot) (get_or l.sessions k no_session).id) l.all l.i
