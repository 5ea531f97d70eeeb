-- What a value's conversion writes, and how far.
use Rattle.std.specs.Prelude.{ℕ, ◌+◌, ◌*◌, ◌≤◌, List, Option, Some, None, length}
use Rattle.conversion.specs.declared.Converted.{Converted}

-- a value that is bytes already is written as it is
abbrev pub bytes : List ℕ → List ℕ
bytes w = w

-- what was written from the place o on takes at most six times n bytes
abbrev pub Near : ℕ → ℕ → Option Converted → Type 0
Near n o (Some d) = d.written ≤ o + 6 * n
Near n o None = Unit {0}

-- room for a message's payload in the other format (PROTOCOL, "Between the formats"): its list and its dict each have at most the message's
-- bytes, and a value comes to at most six times as many (values/proofs/Sizes.antt), so both have room wherever they stand in the message
abbrev pub RoomToConvert : List ℕ → List ℕ → Type 0
RoomToConvert message out = 12 * length message ≤ length out
