-- The room that a step needs and what a host reads in its output, for every hub, step and room. This file is checked first, and what it names in
-- this order: so the log of an edit that is refused begins with the case that it makes false.
use Prim.Native.Nat.{ℕ}
use Rattle.model.specs.declared.Hub.{Hub}
use Rattle.model.specs.Rules.{Sized}
use Rattle.model.specs.Step.{Step}
use Rattle.room.specs.Enough.{Enough}
use Rattle.room.proofs.Facts.{Facts, facts}
use Rattle.room.proofs.PackFacts.{PackFacts, pack-facts}
use Rattle.room.proofs.Enough.{enough}
use Rattle.room.proofs.Output.{Output, output}

pub record Room : Type 0 where
  pub cases : Facts
  pub pack_cases : PackFacts
  pub enough : (h : Hub) (x : Step) (room : ℕ) → Sized h → Enough h x room
  pub output : (h : Hub) (x : Step) (room : ℕ) → Sized h → Output h x room

pub room : Room
room = record { cases = facts; pack_cases = pack-facts; enough = enough; output = output }
