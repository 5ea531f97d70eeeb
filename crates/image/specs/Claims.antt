-- What is claimed of the lent state's bytes.
use Rattle.std.specs.Prelude.{ℕ, ◌<◌, true, List, ◌≡◌, replicate}
use Rattle.seq.specs.Lists.{All}
use Rattle.model.specs.declared.Hub.{Hub}
use Rattle.model.specs.State.{empty_hub}
use Rattle.model.specs.Rules.{Sized, Lawful}
use Rattle.image.specs.Image.{image_size, load, store}

pub record Claims : Type 0 where
  -- the bytes of a hub that keeps the rules are well-formed and stand for that hub
  pub stored : (h : Hub) → Sized h → Lawful h → load (store h) ≡ record { ok = true; hub = h }
  -- one state has one image: well-formed bytes are those of the hub that they stand for, lawful or not
  pub loaded : (s : List ℕ) → All (λ b. b < 256) s → (load s).ok ≡ true → store (load s).hub ≡ s
  -- whatever the bytes, the tables and texts loaded have their sizes
  pub sized : (s : List ℕ) → Sized (load s).hub
  -- an empty hub is all zero
  pub empty : store empty_hub ≡ replicate image_size 0
