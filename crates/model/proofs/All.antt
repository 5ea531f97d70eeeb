-- The three demands, for every hub and step, or every list of steps. This file is checked first, and what it names in this order: so
-- the log of an edit that is refused begins with a case that the edit makes false, or with the demand.
use Prim.Native.Nat.{ℕ}
use mathlib.Core.List.{List}
use Rattle.model.specs.declared.Hub.{Hub}
use Rattle.model.specs.Rules.{Sized}
use Rattle.model.specs.Step.{Step}
use Rattle.model.specs.Run.{Given}
use Rattle.model.specs.Demands.{Demand1, Demand2, Demand2Slots, Demand3}
use Rattle.model.specs.Complete.{Complete}
use Rattle.model.proofs.Facts.{Facts, facts}
use Rattle.model.proofs.Crossing.{Crossing, crossing}
use Rattle.model.proofs.Demand1.{demand1}
use Rattle.model.proofs.Demand2.{demand2, demand2-slots}
use Rattle.model.proofs.Demand3.{demand3}
use Rattle.model.proofs.Complete.{complete}

pub record Demands : Type 0 where
  pub cases : Facts
  pub crossings : Crossing
  pub one : (h : Hub) (x : Step) (room : ℕ) → Sized h → Demand1 h x room
  pub two : (h : Hub) (x : Step) (i number : ℕ) → Demand2 h x i number
  pub two_slots : (h : Hub) (x : Step) (i number : ℕ) → Demand2Slots h x i number
  pub three : (gs : List Given) → Demand3 gs
  pub complete : (h : Hub) (x : Step) (room : ℕ) → Complete h x room

pub demands : Demands
demands = record { cases = facts; crossings = crossing; one = demand1; two = demand2; two_slots = demand2-slots; three = demand3; complete = complete }
