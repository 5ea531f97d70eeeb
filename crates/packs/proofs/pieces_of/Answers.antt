use mathlib.Core.Path.{◌∙◌, ap, sym}
use Rattle.outgoing.specs.Outgoing.{render}
use Rattle.replies.specs.Meaning.{message_of}
use Rattle.packs.proofs.pieces_of.Goals as goal

pub returns-in-Json : goal.returns-in-Json
unfolding render
returns-in-Json c = λ m. c.json_pieces.ensures m ∙ ap (λ f. render f (message_of m c.args.reply)) (sym c.in-Json.is)

pub returns-in-MsgPack : goal.returns-in-MsgPack
unfolding render
returns-in-MsgPack c = λ m. c.packed_pieces.ensures m ∙ ap (λ f. render f (message_of m c.args.reply)) (sym c.in-MsgPack.is)
