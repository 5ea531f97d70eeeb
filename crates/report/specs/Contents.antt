-- The contents of a step's output, read back (PROTOCOL, "Output layout"): a 2-byte count, then a 3-byte entry for each message.
use Rattle.std.specs.Prelude.{ℕ, ◌+◌, ◌*◌, List}
use Rattle.seq.specs.Bytes.{byte_at}
pub use Rattle.seq.specs.Bytes.{number16}
use Rattle.report.specs.declared.Entry.{Entry}

-- the entry of message k, counted from 0: the slot in one byte, the message's length in two
unfoldable pub entry_at : List ℕ → ℕ → Entry
entry_at s k = record { slot = byte_at s (2 + 3 * k); len = number16 s (2 + 3 * k + 1) }
