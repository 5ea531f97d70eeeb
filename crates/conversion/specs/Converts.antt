-- What a conversion answers and leaves in the output (PROTOCOL, "Values").
use Rattle.std.specs.Prelude.{ℕ, ◌+◌, ◌≤◌, ◌<◌, List, ◌≡◌, Option, Some, None, length}
use Rattle.seq.specs.declared.Format.{Format}
use Rattle.seq.specs.declared.Format.TheVariants.{Json, MsgPack}
use Rattle.buffer.specs.Capped.{capped}
use Rattle.buffer.specs.Over.{over}
use Rattle.values.specs.Read.{Read, made}
use Rattle.values.specs.Read.Read.{Gives, Not}
use Rattle.values.specs.Write.{write}
use Rattle.values.specs.Stands.{stands}
use Rattle.conversion.specs.declared.Converted.{Converted}

-- a conversion that ended past what it read and past what it wrote
abbrev pub done : ℕ → ℕ → Converted
done e z = record { read = e; written = z }

-- what was read is written over `old` from the place `o` on, as the bytes w; where nothing was read that converts, the output is free
abbrev pub Writes : {A : Type 0} → List ℕ → ℕ → (A → List ℕ) → Read A → Option Converted → List ℕ → Type 0
Writes old o w (Gives v e) r left = (r ≡ Some (done e (capped (o + length (w v))))) × (left ≡ over old o (w v))
Writes old o w Not r left = r ≡ None

-- the same as a record, so that a proof can tell its parts from its type
pub record Converts {A : Type 0} (old : List ℕ) (o : ℕ) (w : A → List ℕ) (read : Read A) (r : Option Converted) (left : List ℕ) : Type 0 where
  pub so : Writes old o w read r left

-- a value ends behind its place and within a text of n bytes
abbrev pub Ahead : ℕ → ℕ → Option Converted → Type 0
Ahead at n (Some d) = (at < d.read) × (d.read ≤ n)
Ahead at n None = Unit {0}

-- a part that may be empty ends not before its place
abbrev pub Onward : ℕ → ℕ → Option Converted → Type 0
Onward at n (Some d) = (at ≤ d.read) × (d.read ≤ n)
Onward at n None = Unit {0}

-- ---- a conversion as a whole
-- the other of the two formats
abbrev pub other : Format → Format
other Json = MsgPack
other MsgPack = Json

-- the bytes in format g of the value that stands at a place in format f, and the place past that value
unfoldable pub convert : Format → Format → ℕ → List ℕ → ℕ → Read (List ℕ)
convert f g depth s at = made (write g depth) (stands f depth s at)

-- what the code answers, where it writes from the place o on
abbrev pub answer : ℕ → Read (List ℕ) → Option Converted
answer o (Gives w e) = Some (done e (capped (o + length w)))
answer o Not = None

-- what it leaves: the bytes from the place o on; where nothing converts, the output is free
abbrev pub Left : List ℕ → ℕ → Read (List ℕ) → List ℕ → Type 0
Left old o (Gives w e) left = left ≡ over old o w
Left old o Not left = Unit {0}
