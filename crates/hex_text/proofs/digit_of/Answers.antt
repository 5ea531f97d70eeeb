use Rattle.hex_text.specs.Hex.{hex_digit}
use borrow.Author.Rules.{rules}
use Rattle.hex_text.proofs.digit_of.Goals as goal

pub returns : goal.returns
unfolding hex_digit
returns c = search rules
