-- A call's count, by the room that a step needs at most (room/specs/Enough.antt). Assumes nothing.
use Prim.Native.Nat.{ℕ, ◌≤◌}
use mathlib.Core.List.{List}
use native.Mathlib.Omega.{arith}
use Rattle.seq.proofs.Logic.{split}
use Rattle.model.specs.Step.{Step, refused}
use Rattle.room.specs.Enough.{most_bytes}
use Rattle.room.proofs.Enough.{enough}
use Rattle.image.specs.Image.{load, held}
use Rattle.image.proofs.RoundTrip.{load_sized}
use Rattle.hub.specs.Answer.{lent}
use Rattle.hub.proofs.Laws.{lent-unformed, lent-formed}

pub lent-enough : (s : List ℕ) (x : Step) (room : ℕ) → (lent s x room).count ≤ most_bytes
unfolding refused
lent-enough s x room =
    split (load s).ok
    (λ t. rw (lent-formed s x room t) (enough (held s) x room (load_sized s)).count)
    (λ t. rw (lent-unformed s x room t) (omega arith))
