use mathlib.Core.List.{map}
use mathlib.Core.Path.{◌≡◌}
use Rattle.model.specs.Step.{request}
use Rattle.next.specs.Next.{cancel_of}
use Rattle.seq.proofs.Loops.{filled_to}
use Rattle.next.proofs.cancels.Given as goal

abbrev pub invariant-loop-i : goal.invariant-loop-i
invariant-loop-i l = l.all ≡ filled_to 32 (record { slot = 0; request = 0 }) (map cancel_of l.owed) l.i
