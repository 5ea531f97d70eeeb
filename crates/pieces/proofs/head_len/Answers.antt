use Rattle.pieces.proofs.Packs.{str-one, str-two, str-three, str-five}
use Rattle.pieces.proofs.head_len.Goals as goal

pub returns-then-n-lt32 : goal.returns-then-n-lt32
returns-then-n-lt32 c = str-one _ c.if-n-lt32.true

pub returns-then-n-lt256 : goal.returns-then-n-lt256
returns-then-n-lt256 c = str-two _ c.if-n-lt32.false c.if-n-lt256.true

pub returns-then-n-lt65536 : goal.returns-then-n-lt65536
returns-then-n-lt65536 c = str-three _ c.if-n-lt256.false c.if-n-lt65536.true

pub returns-else-n-lt65536 : goal.returns-else-n-lt65536
returns-else-n-lt65536 c = str-five _ c.if-n-lt65536.false
