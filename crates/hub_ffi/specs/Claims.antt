-- What is claimed of calls over the C boundary.
use Rattle.std.specs.Prelude.{ℕ, List, [], ◌∷◌, ◌≡◌, replicate}
use Rattle.model.specs.declared.Hub.{Hub}
use Rattle.model.specs.declared.Outcome.TheVariants.{Done}
use Rattle.model.specs.State.{empty_hub}
use Rattle.model.specs.Rules.{Sized, Lawful}
use Rattle.model.specs.Step.{Step, step}
use Rattle.model.specs.Run.{Given, hub_after}
use Rattle.image.specs.Image.{image_size, store}
use Rattle.hub.specs.Answer.{formats_on, lent, kept, written}

-- the state's bytes after a list of calls
unfoldable pub bytes_after : List ℕ → List Given → List ℕ
bytes_after s [] = s
bytes_after s (g ∷ gs) = bytes_after (kept (lent s g.input g.room) s) gs

pub record Claims : Type 0 where
  -- a refused call leaves the state's bytes and the output as they were, and reports 0 bytes; whatever the bytes
  pub refused_call : (s : List ℕ) (x : Step) (room : ℕ) (old : List ℕ) → ¬ ((lent s x room).outcome ≡ Done)
      → (kept (lent s x room) s ≡ s) × (written (formats_on s) (lent s x room) old ≡ old) × ((lent s x room).count ≡ 0)
  -- on the bytes of a hub that keeps the rules, a call is the model's step
  pub as_step : (h : Hub) → Sized h → Lawful h → (x : Step) (room : ℕ) → lent (store h) x room ≡ step h x room
  -- and leaves the bytes of the model's next state
  pub leaves : (h : Hub) → Sized h → Lawful h → (x : Step) (room : ℕ)
      → kept (lent (store h) x room) (store h) ≡ store (step h x room).hub
  -- so calls on a state that was all zero at first are a run from the empty hub, of which demand 3 speaks
  pub as_run : (gs : List Given) → bytes_after (replicate image_size 0) gs ≡ store (hub_after empty_hub gs)
