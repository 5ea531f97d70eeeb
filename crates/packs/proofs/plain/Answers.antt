use Prim.Native.Nat.{suc}
use mathlib.Core.List.{append-nil}
use native.Mathlib.Omega.{arith}
use lib.ListN.{length}
use Rattle.seq.specs.Bytes.{payload_in}
use Rattle.pieces.specs.Pieces.{bytes_of}
use Rattle.values.specs.Write.{pack_map}
use Rattle.packs.proofs.plain.Goals as goal

pub returns : goal.returns
unfolding bytes_of pack_map
returns c = λ m. rw (c.head-h.ensures m (suc (suc (suc (suc (length (payload_in m c.args.payload)))))) (omega arith), append-nil)
