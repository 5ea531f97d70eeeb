use Rattle.hex_text.specs.Hex.{hex_byte}
use borrow.Author.Rules.{rules}
use Rattle.hex_text.proofs.pair.Goals as goal

pub returns : goal.returns
unfolding hex_byte
returns c = search rules
