use mathlib.Core.Path.{refl}
use Rattle.pieces.specs.Pieces.{bytes_of}
use Rattle.values.specs.Write.{pack_array}
use Rattle.packs.proofs.one.Goals as goal

pub returns : goal.returns
unfolding bytes_of pack_array
returns c = λ m. refl
