use Rattle.pieces.specs.Pieces.{bytes_of}
use Rattle.outgoing.specs.Outgoing.{msgpack}
use Rattle.replies.specs.Meaning.{message_of}
use Rattle.values.specs.Write.{pack_whole, pack_array, pack_map}
use Rattle.packs.proofs.call_error.Goals as goal

pub returns : goal.returns
unfolding bytes_of msgpack message_of pack_whole pack_array pack_map
returns c = λ m. rw (c.uri_piece-u.ensures m)
