-- In either format the reader of values reads a text to its end exactly where the text is that value by the grammar. Assumes nothing.
use Prim.Native.Nat.{ℕ, ◌<◌}
use mathlib.Core.List.{List}
use mathlib.Core.Logic.{◌↔◌}
use mathlib.Core.Path.{◌≡◌}
use lib.ListN.{length}
use Rattle.seq.specs.declared.Format.{Format}
use Rattle.seq.specs.declared.Format.TheVariants.{Json, MsgPack}
use Rattle.seq.specs.Lists.{All}
use Rattle.values.specs.Value.{Value}
use Rattle.values.specs.Read.Read.{Gives}
use Rattle.values.specs.Stands.{stands}
use Rattle.meanings.specs.Means.{Means}
use Rattle.meanings.proofs.Json.{json-means}
use Rattle.meanings.proofs.MsgPack as InMsgPack

pub means : (f : Format) (depth : ℕ) (t : List ℕ) (v : Value depth) → All (λ b. b < 256) t → (stands f depth t 0 ≡ Gives v (length t)) ↔ Means f depth v t
means Json depth t v bytes = json-means depth t v
means MsgPack depth t v bytes = InMsgPack.means depth t v bytes
