use Rattle.outgoing.specs.Outgoing.{json}
use Rattle.pieces.specs.Pieces.{shorts, bytes_of}
use Rattle.replies.specs.Meaning.{message_of}
use Rattle.replies.proofs.farewell.Goals as goal

pub returns : goal.returns
unfolding shorts bytes_of json message_of
returns c = λ m. rw (c.uri_piece-u.ensures m)
