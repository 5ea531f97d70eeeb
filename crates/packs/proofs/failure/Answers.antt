use Prim.Native.Nat.{suc}
use mathlib.Core.List.{append-nil}
use native.Mathlib.Omega.{arith}
use lib.ListN.{length}
use Rattle.seq.specs.Bytes.{payload_in}
use Rattle.pieces.specs.Pieces.{bytes_of}
use Rattle.outgoing.specs.Outgoing.{msgpack}
use Rattle.replies.specs.Meaning.{message_of}
use Rattle.values.specs.Write.{pack_whole, pack_map}
use Rattle.packs.proofs.failure.Goals as goal

pub returns : goal.returns
unfolding bytes_of msgpack message_of pack_whole pack_map
returns c = λ m. rw (c.head-h.ensures m (suc (suc (suc (suc (suc (length (payload_in m c.args.payload))))))) (omega arith), append-nil)
