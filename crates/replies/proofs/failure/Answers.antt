use mathlib.Core.List.{append_assoc}
use Rattle.outgoing.specs.Outgoing.{json}
use Rattle.pieces.specs.Pieces.{texts, shorts, bytes_of}
use Rattle.replies.specs.Meaning.{message_of}
use Rattle.replies.proofs.failure.Goals as goal

pub returns : goal.returns
unfolding texts shorts bytes_of json message_of
returns c = λ m. simp append_assoc
