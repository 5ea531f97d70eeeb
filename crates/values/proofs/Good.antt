-- What stands at a place where the reader of messages takes a value can be written again; stated once over both formats. Assumes nothing.
use Rattle.std.specs.Prelude.{Some}
use Prim.Native.Nat.{ℕ}
use mathlib.Core.List.{List}
use mathlib.Core.Path.{◌≡◌}
use Rattle.seq.specs.declared.Format.{Format}
use Rattle.seq.specs.declared.Format.TheVariants.{Json, MsgPack}
use Rattle.values.specs.Value.{Value, Good}
use Rattle.values.specs.Read.Read.{Gives}
use Rattle.values.specs.Skips.{skips, Readable}
use Rattle.values.specs.Stands.{stands}
use Rattle.values.proofs.Given.{Sound}
use Rattle.values.proofs.GoodPack.{pack-good}
use Rattle.values.proofs.GoodJson.{json-good}

sound : (f : Format) (depth : ℕ) (s : List ℕ) → Readable f s → Sound (stands f depth s) (skips f depth s) (Good depth)
sound Json depth s (u, l) at e z v g t = json-good s u l depth at e z v g t
sound MsgPack depth s a at e z v g t = pack-good s a depth at e z v g t

module _ (f : Format) (depth : ℕ) (s : List ℕ) (at e : ℕ) (v : Value depth) (z : ℕ) where
  pub good : Readable f s → skips f depth s at ≡ Some z → stands f depth s at ≡ Gives v e → Good depth v
  good r t g = (sound f depth s r at e z v g t).1
