use Rattle.quoting.proofs.Laws.{hex-low, hex-high}
use Rattle.quoting.proofs.hex_digit.Goals as goal

pub returns-then-n-lt10 : goal.returns-then-n-lt10
returns-then-n-lt10 c = hex-low _ c.if-n-lt10.true

pub returns-else-n-lt10 : goal.returns-else-n-lt10
returns-else-n-lt10 c = hex-high _ c.if-n-lt10.false
