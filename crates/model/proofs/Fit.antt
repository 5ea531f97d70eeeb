-- What the theorems about the book need of each step that it is fed: proofs/Whole.antt shows it of every step of a run.
-- Assumes nothing.
use Prim.Native.Nat.{ℕ, ◌<◌}
use mathlib.Core.Path.{◌≡◌}
use mathlib.Core.Bool.{true}
use mathlib.Core.List.{List, [], ◌∷◌}
use lib.ListN.{length, get_or}
use Rattle.seq.specs.Lists.{Both}
use Rattle.model.specs.Book.{Book, Place, no_place, Chosen, none, chosen, lowest, awaits, invocation_in, replies_in}
use Rattle.model.specs.Run.{Fed, entry, Meets}

-- a step that sends an INVOCATION had an empty place for the call
abbrev pub Roomy : List Place → Chosen → Type 0
Roomy ps none = Unit {0}
Roomy ps (chosen c v) = lowest ps < length ps

-- no two places await one answer
abbrev pub Unique : List Place → Type 0
Unique ps = (j k e v : ℕ) → awaits e v (get_or ps j no_place) ≡ true → awaits e v (get_or ps k no_place) ≡ true → j ≡ k

pub record Fit (b : Book) (f : Fed) : Type 0 where
  pub roomy : Roomy b.places (invocation_in f.mails)
  pub unique : Unique b.places
  pub paid : Both Meets (entry b f).owed (replies_in b f.mails)

-- every step of a list
abbrev pub AllFit : Book → List Fed → Type 0
AllFit b [] = Unit {0}
AllFit b (f ∷ fs) = Fit b f × AllFit (entry b f).book fs
