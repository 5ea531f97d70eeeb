use mathlib.Core.Path.{refl}
use Rattle.pieces.specs.Pieces.{texts, bytes_of}
use Rattle.outgoing.specs.Outgoing.{msgpack}
use Rattle.replies.specs.Meaning.{message_of}
use Rattle.values.specs.Write.{wide, pack_whole, pack_str, pack_array, pack_map, pack_text, pack_scalar}
use Rattle.packs.proofs.welcome.Goals as goal

pub returns : goal.returns
unfolding texts bytes_of msgpack message_of wide pack_whole pack_str pack_array pack_map pack_text pack_scalar
returns c = λ m. refl
