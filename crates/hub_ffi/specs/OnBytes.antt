-- The demands on the bytes that a host lends: of one call on any bytes, and of calls in a row on a state that was all zero at first.
use Rattle.std.specs.Prelude.{ℕ, ◌<◌, ◌/◌, ◌%◌, List, [], ◌∷◌, map, ◌≡◌, ◌↔◌, length, replicate, take, drop}
use Rattle.seq.specs.Lists.{All}
use Rattle.outgoing.specs.Layout.{layout}
use Rattle.model.specs.declared.Hub.{Hub}
use Rattle.model.specs.declared.Outcome.TheVariants.{Done, BadState, BadSlot, WrongTime, BadNumber, NoRoom}
use Rattle.model.specs.State.{empty_hub, format_at}
use Rattle.model.specs.Rules.{Sized, Lawful}
use Rattle.model.specs.Step.{Step, Stepped, step, refusal}
use Rattle.model.specs.Run.{Given, result, fed_by}
use Rattle.model.specs.Demands.{Demand1}
use Rattle.model.specs.Complete.{Complete}
use Rattle.image.specs.Image.{image_size, store}
use Rattle.hub.specs.Answer.{formats_on, lent, kept, written}
use Rattle.hub_ffi.specs.Boundary.{answer}

-- ==== one call: demand 1

-- the bytes are those of a hub that keeps the state rules
abbrev pub OfLawful : List ℕ → Type 0
OfLawful s = (h : Hub) × Sized h × Lawful h × (store h ≡ s)

pub record OneCall (s : List ℕ) (x : Step) (room : ℕ) : Type 0 where
  -- 1 BAD STATE: the bytes are no lawful hub's. They are bytes: the number 256 at the end of a counter would be read as two bytes, 1 and 0, so
  -- a list with it can stand for a lawful hub, and is not what that hub is stored as
  pub bad_state : All (λ b. b < 256) s → ((lent s x room).outcome ≡ BadState ↔ ¬ (OfLawful s))
  -- there is no third case
  pub lawful : All (λ b. b < 256) s → ¬ ((lent s x room).outcome ≡ BadState) → OfLawful s
  -- on a lawful hub's bytes the call is the model's step on that hub: it answers no BAD STATE, and each other refusal exactly when its rule says
  -- (`Demand1`); with 2,048 bytes lent no session's end is refused for room, and the lent number is nothing to most messages (`Complete`)
  pub otherwise : (h : Hub) → Sized h → Lawful h → store h ≡ s → (lent s x room ≡ step h x room) × Demand1 h x room × Complete h x room
  -- and leaves a lawful hub's bytes
  pub lasting : OfLawful s → OfLawful (kept (lent s x room) s)
  -- the answer (PROTOCOL, "The C boundary"): the refusal's number "in the lowest byte, and above it the number of output bytes written"
  pub lowest : answer (lent s x room) % 256 ≡ refusal (lent s x room).outcome
  pub above : answer (lent s x room) / 256 ≡ (lent s x room).count
  -- a done call's messages, each in its receiver's format before the call, stand in as many of the first bytes lent as it reports, and the
  -- bytes beyond stay
  pub output : (old : List ℕ) → (lent s x room).outcome ≡ Done
      → (take (lent s x room).count (written (formats_on s) (lent s x room) old) ≡ layout (formats_on s) (lent s x room).mails)
      × (drop (lent s x room).count (written (formats_on s) (lent s x room) old) ≡ drop (lent s x room).count old)

-- ==== calls in a row: demand 3

-- what a call lends besides the state: a step, and the bytes that its output is written over
abbrev pub Call : Type 0
Call = record { input : Step; out : List ℕ }

-- the same as a step of a run: the room is all of those bytes
abbrev pub given : Call → Given
given c = record { input = c.input; room = length c.out }

-- what a call on the state's bytes does
abbrev pub called : List ℕ → Call → Stepped
called s c = lent s c.input (length c.out)

-- the numbers that the calls answer, in order, each on the state's bytes that the one before left
unfoldable pub answers_of : List ℕ → List Call → List ℕ
answers_of s [] = []
answers_of s (c ∷ cs) = answer (called s c) ∷ answers_of (kept (called s c) s) cs

-- the bytes lent for the outputs, as the calls leave them
unfoldable pub outputs_of : List ℕ → List Call → List (List ℕ)
outputs_of s [] = []
outputs_of s (c ∷ cs) = written (formats_on s) (called s c) c.out ∷ outputs_of (kept (called s c) s) cs

-- what the steps of a run do, in order, each on the hub that the one before left
unfoldable pub results_of : Hub → List Given → List Stepped
results_of h [] = []
results_of h (g ∷ gs) = result h g ∷ results_of (result h g).hub gs

-- the outputs of these written over the bytes that the calls lent, each in the formats of the hub before its step
unfoldable pub written_from : Hub → List Call → List (List ℕ)
written_from h [] = []
written_from h (c ∷ cs) = written (format_at h) (result h (given c)) c.out ∷ written_from (result h (given c)).hub cs

module _ (cs : List Call) where
  -- all that the calls answer and write, from a state that is all zero
  abbrev pub answers : List ℕ
  answers = answers_of (replicate image_size 0) cs

  abbrev pub outputs : List (List ℕ)
  outputs = outputs_of (replicate image_size 0) cs

  -- the run that they are
  abbrev pub run : List Given
  run = map given cs

  pub record ManyCalls : Type 0 where
    -- the answers and the outputs are those of the run from the empty hub, byte for byte
    pub answered : answers ≡ map answer (results_of empty_hub run)
    pub wrote : outputs ≡ written_from empty_hub cs
    -- and its refusals and messages are what demand 3 speaks of
    pub refusals : map (λ t. refusal t.outcome) (results_of empty_hub run) ≡ map (λ f. f.refusal) (fed_by run)
    pub mails : map (λ t. t.mails) (results_of empty_hub run) ≡ map (λ f. f.mails) (fed_by run)
    -- no call answers BAD STATE
    pub never : All (λ a. ¬ (a % 256 ≡ refusal BadState)) answers

pub record OnBytes : Type 0 where
  -- the numbers of "The five refusals", and of done
  pub numbers : map refusal (Done ∷ BadState ∷ BadSlot ∷ WrongTime ∷ BadNumber ∷ NoRoom ∷ []) ≡ 0 ∷ 1 ∷ 2 ∷ 3 ∷ 4 ∷ 5 ∷ []
  pub one : (s : List ℕ) (x : Step) (room : ℕ) → OneCall s x room
  pub many : (cs : List Call) → ManyCalls cs
