-- Where the parts of a lent state stand (PROTOCOL, "The lent state"): its tables of places, each number said of the bytes at its place. Nothing
-- of Image.antt stands here but `load`, so that two fields swapped, or a number another way round, in `load` and `store` alike are refused.
-- proofs/Places.antt proves it of every 9,688 bytes.
use Rattle.std.specs.Prelude.{ℕ, ◌+◌, ◌*◌, ◌<◌, true, List, ◌≡◌, length, get_or}
use Rattle.seq.specs.Bytes.{byte_at}
use Rattle.seq.specs.Lists.{bit}
use Rattle.uri.specs.declared.Policy.TheVariants.{Exact, Prefix, Wildcard}
use Rattle.pattern.specs.declared.Row.{Row}
use Rattle.model.specs.declared.Status.TheVariants.{Closed, Attached, Open, AttachedMsgPack, OpenMsgPack}
use Rattle.model.specs.declared.Session.{Session}
use Rattle.model.specs.declared.HeldCall.{HeldCall}
use Rattle.model.specs.State.{session, row_at, holds, call_at}
use Rattle.image.specs.Image.{load, held}

-- the number in the 8 bytes from a place on, the highest first
abbrev pub number64 : List ℕ → ℕ → ℕ
number64 s at =
    72057594037927936 * byte_at s at + 281474976710656 * byte_at s (at + 1) + 1099511627776 * byte_at s (at + 2) + 4294967296 * byte_at s (at + 3)
    + 16777216 * byte_at s (at + 4) + 65536 * byte_at s (at + 5) + 256 * byte_at s (at + 6) + byte_at s (at + 7)

-- "Within a session's row, 25 bytes"
pub record SessionFrom (s : List ℕ) (at : ℕ) (x : Session) : Type 0 where
  pub is_closed : byte_at s at ≡ 0 → x.status ≡ Closed
  pub is_attached : byte_at s at ≡ 1 → x.status ≡ Attached
  pub is_open : byte_at s at ≡ 2 → x.status ≡ Open
  pub is_attached_msg_pack : byte_at s at ≡ 4 → x.status ≡ AttachedMsgPack
  pub is_open_msg_pack : byte_at s at ≡ 5 → x.status ≡ OpenMsgPack
  pub id : x.id ≡ number64 s (at + 1)
  pub request : x.request ≡ number64 s (at + 9)
  pub invocation : x.invocation ≡ number64 s (at + 17)

-- "Within a subscription's or registration's row, 139 bytes", but for byte 9
pub record RowFrom (s : List ℕ) (at : ℕ) (r : Row) : Type 0 where
  pub number : r.number ≡ number64 s at
  pub exact : byte_at s (at + 8) ≡ 0 → r.policy ≡ Exact
  pub prefix : byte_at s (at + 8) ≡ 1 → r.policy ≡ Prefix
  pub wildcard : byte_at s (at + 8) ≡ 2 → r.policy ≡ Wildcard
  pub len : r.len ≡ byte_at s (at + 10)
  pub text : (j : ℕ) → j < 128 → get_or r.text j 0 ≡ byte_at s (at + 11 + j)

-- "a bit for each member, slot 0 the lowest bit"
abbrev pub members : Row → ℕ
members r =
    bit (holds 0 r) + 2 * bit (holds 1 r) + 4 * bit (holds 2 r) + 8 * bit (holds 3 r)
    + 16 * bit (holds 4 r) + 32 * bit (holds 5 r) + 64 * bit (holds 6 r) + 128 * bit (holds 7 r)

-- "Within a held call's row, 18 bytes"
pub record CallFrom (s : List ℕ) (at : ℕ) (c : HeldCall) : Type 0 where
  pub caller : c.caller ≡ byte_at s at
  pub request : c.request ≡ number64 s (at + 1)
  pub callee : c.callee ≡ byte_at s (at + 9)
  pub invocation : c.invocation ≡ number64 s (at + 10)

pub record Places (s : List ℕ) : Type 0 where
  pub sessions : (i : ℕ) → i < 8 → SessionFrom s (25 * i) (session (held s) i)
  pub subscription_counter : (held s).subscriptions.counter ≡ number64 s 200
  pub subscriptions : (k : ℕ) → k < 32 → RowFrom s (208 + 139 * k) (row_at (held s).subscriptions k)
  pub members : (k : ℕ) → k < 32 → byte_at s (208 + 139 * k + 9) < 256 → members (row_at (held s).subscriptions k) ≡ byte_at s (208 + 139 * k + 9)
  pub registration_counter : (held s).registrations.counter ≡ number64 s 4656
  pub registrations : (k : ℕ) → k < 32 → RowFrom s (4664 + 139 * k) (row_at (held s).registrations k)
  -- the owner's slot, of a used row
  pub owners : (k : ℕ) → k < 32 → ¬ ((row_at (held s).registrations k).number ≡ 0) → byte_at s (4664 + 139 * k + 9) < 8
      → holds (byte_at s (4664 + 139 * k + 9)) (row_at (held s).registrations k) ≡ true
  pub calls : (k : ℕ) → k < 32 → CallFrom s (9112 + 18 * k) (call_at (held s) k)

pub record Layout : Type 0 where
  -- bytes of another number are no state's
  pub size : (s : List ℕ) → (load s).ok ≡ true → length s ≡ 9688
  pub places : (s : List ℕ) → length s ≡ 9688 → Places s
