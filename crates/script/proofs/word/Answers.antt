use Rattle.script.specs.Script.{word_at}
use Rattle.script.proofs.word.Goals as goal

pub returns : goal.returns
unfolding word_at
returns c = rw (c.upto.ensures.means, c.spaces-from.ensures)
