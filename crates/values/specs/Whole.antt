-- A text that is one value and nothing else, as an element of a message may be.
use Rattle.std.specs.Prelude.{ℕ, List, ◌≡◌, length, Some}
use Rattle.seq.specs.declared.Format.{Format}
use Rattle.elements.specs.Elements.{inner_depth}
use Rattle.values.specs.Skips.{skips, Readable}

-- it ends where the value ends; what is read from it can be written again
abbrev pub Whole : Format → List ℕ → Type 0
Whole f v = (skips f inner_depth v 0 ≡ Some (length v)) × Readable f v
