-- When bytes in two formats stand for one value, by the readers of values (specs/Stands.antt). A value nests as an element of a message does.
use Rattle.std.specs.Prelude.{ℕ, List, ◌≡◌, length}
use Rattle.seq.specs.declared.Format.{Format}
use Rattle.seq.specs.Lists.{In}
use Rattle.elements.specs.Elements.{inner_depth}
use Rattle.values.specs.Value.{Value}
use Rattle.values.specs.Read.Read.{Gives}
use Rattle.values.specs.Stands.{stands}

-- bytes in formats f and g that stand for one value
pub record SameValue (f g : Format) (v w : List ℕ) : Type 0 where
  pub value : Value inner_depth
  pub came : stands f inner_depth v 0 ≡ Gives value (length v)
  pub goes : stands g inner_depth w 0 ≡ Gives value (length w)

-- one of some values stands for none
abbrev pub Unlike : Format → List (List ℕ) → Type 0
Unlike f p = (v : List ℕ) × In v p × ((x : Value inner_depth) (e : ℕ) → ¬ (stands f inner_depth v 0 ≡ Gives x e))
