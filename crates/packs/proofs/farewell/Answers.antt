use Rattle.pieces.specs.Pieces.{bytes_of}
use Rattle.values.specs.Write.{pack_array, pack_map}
use Rattle.packs.proofs.farewell.Goals as goal

pub returns : goal.returns
unfolding bytes_of pack_array pack_map
returns c = λ m. rw (c.uri_piece-u.ensures m)
