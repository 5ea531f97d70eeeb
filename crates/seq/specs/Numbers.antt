-- Numbers that every layer shares.
use Rattle.std.specs.Prelude.{ℕ}

-- 2^53: the last ID, and where a counter ends (PROTOCOL, "Sizes")
abbrev pub last_id : ℕ
last_id = 9007199254740992
