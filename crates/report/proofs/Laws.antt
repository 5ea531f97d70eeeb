-- Laws of the contents: an entry's bytes, and the messages one by one. Assumes nothing.
use mathlib.Core.Path.{◌≡◌}
use Prim.Native.Nat.{ℕ, suc, ◌+◌, ◌*◌, ◌-◌, ◌<◌}
use native.Mathlib.Omega.{arith}
use mathlib.Core.List.{List, ◌++◌}
use lib.ListN.{get_or}
use Rattle.seq.specs.Bytes.{part}
use Rattle.report.specs.Contents.{entry_at}
use Rattle.report.specs.Text.{message_text, messages_from}

-- the bytes of an entry, one by one
pub entry-bytes : (s : List ℕ) (k : ℕ)
    → entry_at s k ≡ record { slot = get_or s (2 + 3 * k) 0; len = get_or s (2 + 3 * k + 1) 0 * 256 + get_or s (2 + 3 * k + 2) 0 }
unfolding entry_at
entry-bytes s k = let e : 2 + 3 * k + 1 + 1 ≡ 2 + 3 * k + 2 = omega arith in rw e

-- one message of those that are left
pub messages-turn : (out : List ℕ) (n k from : ℕ) → k < n
    → messages_from out (n - k) k from
    ≡ message_text (entry_at out k).slot (part from (from + (entry_at out k).len) out)
    ++ messages_from out (n - (k + 1)) (k + 1) (from + (entry_at out k).len)
unfolding messages_from
messages-turn out n k from h = let e : n - k ≡ suc (n - (k + 1)) = omega arith in rw e
