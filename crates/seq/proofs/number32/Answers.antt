use borrow.Author.Rules.{rules}
use Rattle.seq.specs.BigEndian.{number}
use Rattle.seq.proofs.number32.Goals as goal

pub returns : goal.returns
unfolding number
returns c = search rules
