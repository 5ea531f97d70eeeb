use Rattle.pieces.proofs.Packs.{whole-one, whole-two, whole-three, whole-five, whole-nine}
use Rattle.pieces.proofs.packed_len.Goals as goal

pub returns-then-n-lt128 : goal.returns-then-n-lt128
returns-then-n-lt128 c = whole-one _ c.if-n-lt128.true

pub returns-then-n-lt256 : goal.returns-then-n-lt256
returns-then-n-lt256 c = whole-two _ c.if-n-lt128.false c.if-n-lt256.true

pub returns-then-n-lt65536 : goal.returns-then-n-lt65536
returns-then-n-lt65536 c = whole-three _ c.if-n-lt256.false c.if-n-lt65536.true

pub returns-then-n-lt4294967296 : goal.returns-then-n-lt4294967296
returns-then-n-lt4294967296 c = whole-five _ c.if-n-lt65536.false c.if-n-lt4294967296.true

pub returns-else-n-lt4294967296 : goal.returns-else-n-lt4294967296
returns-else-n-lt4294967296 c = whole-nine _ c.if-n-lt4294967296.false
