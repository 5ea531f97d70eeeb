use lib.ListN.{length, drop}
use mathlib.Core.Path.{◌≡◌}
use Rattle.seq.specs.Lists.{first_from, first}
use Rattle.model.specs.State.{is_holder}
use Rattle.keep.proofs.owner_number.Given as goal

abbrev pub invariant-loop-slot : goal.invariant-loop-slot
invariant-loop-slot l = (length l.holders ≡ 8) × (first is_holder l.holders ≡ first_from is_holder l.slot (drop l.slot l.holders))
