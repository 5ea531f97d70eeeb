-- The lent state: the bytes of a hub, and the hub of such bytes. Numbers are big-endian; IDs, request numbers and counters take 8 bytes,
-- everything else 1. An empty hub is all zero, and so is an unused row.
--
--   from  part           bytes        each row
--      0  sessions       8 x 25       status, session ID 8, last request number 8, last invocation number 8
--    200  subscriptions  8 + 32 x 139 the ID counter; then per row ID 8, policy, member bits, text length, text padded with zeros to 128
--   4656  registrations  8 + 32 x 139 the same, with the owner's slot for the member bits
--   9112  held calls     32 x 18      caller's slot, request number 8, callee's slot, invocation number 8
--   9688  the end
use Rattle.std.specs.Prelude.{ℕ, zero, suc, ◌+◌, ◌*◌, ◌/◌, ◌%◌, Bool, true, false, cond, ◌&&◌, ◌||◌, List, [], ◌∷◌, ◌++◌, map, length, take, drop, set, replicate, eqb, ltb}
use Rattle.seq.specs.Lists.{every, first, on_found, bit, joined}
use Rattle.seq.specs.Bytes.{byte_at}
use Rattle.uri.specs.declared.Policy.{Policy}
use Rattle.uri.specs.declared.Policy.TheVariants.{Exact, Prefix, Wildcard}
use Rattle.uri.specs.Uri.{policy_no}
use Rattle.pattern.specs.declared.Row.{Row}
use Rattle.model.specs.declared.Status.{Status}
use Rattle.model.specs.declared.Status.TheVariants.{Closed, Attached, Open, AttachedMsgPack, OpenMsgPack}
use Rattle.model.specs.declared.Session.{Session}
use Rattle.model.specs.declared.Table.{Table}
use Rattle.model.specs.declared.HeldCall.{HeldCall}
use Rattle.model.specs.declared.Hub.{Hub}
use Rattle.model.specs.State.{slots, row_count, is_holder, empty_hub, with_subscriptions, with_registrations, left_by, dropped}
use Rattle.model.specs.Rules.{is_zero}
use Rattle.image.specs.declared.Kind.{Kind}
use Rattle.image.specs.declared.Kind.TheVariants.{Members, Owner}

-- ---- sizes in bytes
abbrev pub session_size : ℕ
session_size = 25

abbrev pub row_size : ℕ
row_size = 139

abbrev pub call_size : ℕ
call_size = 18

abbrev pub image_size : ℕ
image_size = 9688

-- ---- where the parts after the sessions start
abbrev pub subscriptions_at : ℕ
subscriptions_at = 200

abbrev pub registrations_at : ℕ
registrations_at = 4656

abbrev pub calls_at : ℕ
calls_at = 9112

-- ---- numbers and rows
-- the number in the first n bytes, big-endian
unfoldable pub number : ℕ → List ℕ → ℕ
number zero s = 0
number (suc n) s = number n s * 256 + byte_at s n

-- a number's n bytes
unfoldable pub digits : ℕ → ℕ → List ℕ
digits zero x = []
digits (suc n) x = digits n (x / 256) ++ (x % 256 ∷ [])

-- the first n rows of w bytes
unfoldable pub cut : ℕ → ℕ → List ℕ → List (List ℕ)
cut w zero s = []
cut w (suc n) s = take w s ∷ cut w n (drop w s)

-- ---- sessions
-- a status as a byte
abbrev pub status_no : Status → ℕ
status_no Closed = 0
status_no Attached = 1
status_no Open = 2
status_no AttachedMsgPack = 4
status_no OpenMsgPack = 5

-- the bytes that name a status
abbrev pub is_status : ℕ → Bool
is_status b = ltb b 3 || (eqb b 4 || eqb b 5)

-- the status of a byte; one that names none is refused by `formed`
abbrev pub status_of : ℕ → Status
status_of b = cond (eqb b 1) Attached (cond (eqb b 2) Open (cond (eqb b 4) AttachedMsgPack (cond (eqb b 5) OpenMsgPack Closed)))

-- the session of 25 bytes
unfoldable pub session_of : List ℕ → Session
session_of s =
    record {
      status = status_of (byte_at s 0);
      id = number 8 (drop 1 s);
      request = number 8 (drop 9 s);
      invocation = number 8 (drop 17 s);
    }

-- the bytes of a session
unfoldable pub session_bytes : Session → List ℕ
session_bytes x = status_no x.status ∷ (digits 8 x.id ++ (digits 8 x.request ++ digits 8 x.invocation))

-- the status byte names a status
unfoldable pub session_formed : List ℕ → Bool
session_formed s = is_status (byte_at s 0)

-- ---- subscription and registration rows
-- n member bits, slot 0 lowest
unfoldable pub bits_of : ℕ → ℕ → List Bool
bits_of zero b = []
bits_of (suc n) b = eqb (b % 2) 1 ∷ bits_of n (b / 2)

-- the same as a byte
unfoldable pub bits_no : List Bool → ℕ
bits_no [] = 0
bits_no (b ∷ bs) = bits_no bs * 2 + bit b

-- the owner alone; none in an unused row, whose owner's slot is 0, so that any other there breaks rule 1
unfoldable pub owner_of : ℕ → ℕ → List Bool
owner_of number b = cond (eqb number 0 && eqb b 0) (replicate slots false) (set (replicate slots false) b true)

-- the first holder's slot; 0 where there is none
unfoldable pub owner_no : List Bool → ℕ
owner_no hs = on_found (first is_holder hs) (λ i. i) 0

-- the holders by the number and the holders' byte of a row
unfoldable pub holders_of : Kind → ℕ → ℕ → List Bool
holders_of Members number b = bits_of slots b
holders_of Owner number b = owner_of number b

-- the holders' byte
unfoldable pub holders_no : Kind → List Bool → ℕ
holders_no Members hs = bits_no hs
holders_no Owner hs = owner_no hs

-- where the holders' bytes end: any byte has member bits, an owner is a slot
abbrev pub holders_end : Kind → ℕ
holders_end Members = 256
holders_end Owner = slots

-- the policy of a byte; one that names none is refused by `formed`
abbrev pub policy_of : ℕ → Policy
policy_of b = cond (eqb b 1) Prefix (cond (eqb b 2) Wildcard Exact)

-- the row of 139 bytes
unfoldable pub row_of : Kind → List ℕ → Row
row_of kind s =
    record {
      number = number 8 s;
      policy = policy_of (byte_at s 8);
      holders = holders_of kind (number 8 s) (byte_at s 9);
      len = byte_at s 10;
      text = drop 11 s;
    }

-- the bytes before the text
unfoldable pub row_head : Kind → Row → List ℕ
row_head kind r = digits 8 r.number ++ (policy_no r.policy ∷ holders_no kind r.holders ∷ r.len % 256 ∷ [])

-- the bytes of a row
unfoldable pub row_bytes : Kind → Row → List ℕ
row_bytes kind r = row_head kind r ++ r.text

-- the policy byte names a policy, and the holders' byte holders
unfoldable pub row_formed : Kind → List ℕ → Bool
row_formed kind s = ltb (byte_at s 8) 3 && ltb (byte_at s 9) (holders_end kind)

-- the table whose bytes stand first
unfoldable pub table_of : Kind → List ℕ → Table
table_of kind s = record { counter = number 8 s; rows = map (row_of kind) (cut row_size row_count (drop 8 s)) }

-- the bytes of a table
unfoldable pub table_bytes : Kind → Table → List ℕ
table_bytes kind t = digits 8 t.counter ++ joined (row_bytes kind) t.rows

-- every row is well-formed
unfoldable pub table_formed : Kind → List ℕ → Bool
table_formed kind s = every (row_formed kind) (cut row_size row_count (drop 8 s))

-- ---- held calls
-- the held call of 18 bytes
unfoldable pub call_of : List ℕ → HeldCall
call_of s = record { caller = byte_at s 0; request = number 8 (drop 1 s); callee = byte_at s 9; invocation = number 8 (drop 10 s) }

-- the bytes of a held call; the slots of a hub that keeps the rules are below 8, and fit their bytes
unfoldable pub call_bytes : HeldCall → List ℕ
call_bytes c = c.caller % 256 ∷ (digits 8 c.request ++ (c.callee % 256 ∷ digits 8 c.invocation))

-- ---- the hub
-- the hub of 9,688 bytes
unfoldable pub hub_of : List ℕ → Hub
hub_of s =
    record {
      sessions = map session_of (cut session_size slots s);
      subscriptions = table_of Members (drop subscriptions_at s);
      registrations = table_of Owner (drop registrations_at s);
      calls = map call_of (cut call_size row_count (drop calls_at s));
    }

-- every status and policy byte names a value, and every owner is a slot
unfoldable pub formed : List ℕ → Bool
formed s =
    every session_formed (cut session_size slots s)
    && (table_formed Members (drop subscriptions_at s) && table_formed Owner (drop registrations_at s))

-- whether the bytes are well-formed, and the hub that they stand for
pub record Loaded : Type 0 where
  pub ok : Bool
  pub hub : Hub

-- the empty hub where the number of bytes is another
unfoldable pub load : List ℕ → Loaded
load s = cond (eqb (length s) image_size) (record { ok = formed s; hub = hub_of s }) (record { ok = false; hub = empty_hub })

-- the hub that bytes stand for
abbrev pub held : List ℕ → Hub
held s = (load s).hub

-- the bytes of a hub
unfoldable pub store : Hub → List ℕ
store h =
    joined session_bytes h.sessions
    ++ (table_bytes Members h.subscriptions ++ (table_bytes Owner h.registrations ++ joined call_bytes h.calls))

-- ---- parts of a state
-- the table whose rows are of a kind
abbrev pub table_in : Kind → Hub → Table
table_in Members h = h.subscriptions
table_in Owner h = h.registrations

-- where a table's bytes begin
abbrev pub table_at : Kind → ℕ
table_at Members = subscriptions_at
table_at Owner = registrations_at

-- the bytes of row k, where they lie in the state's; none beyond the last row
unfoldable pub row_part : Kind → List ℕ → ℕ → List ℕ
row_part kind s k =
    cond (eqb (length s) image_size && ltb k row_count) (take row_size (drop (table_at kind + 8 + k * row_size) s)) []

-- the text is followed by zeros only
abbrev pub padded_row : Row → Bool
padded_row r = every is_zero (drop r.len r.text)

-- the hub with other sessions
abbrev pub with_sessions : Hub → List Session → Hub
with_sessions h ss = record { sessions = ss; subscriptions = h.subscriptions; registrations = h.registrations; calls = h.calls }

-- the hub with another table
abbrev pub with_table : Kind → Hub → Table → Hub
with_table Members h t = with_subscriptions h t
with_table Owner h t = with_registrations h t

-- the hub without the rows, memberships and held calls of slot i
abbrev pub freed : ℕ → Hub → Hub
freed i h =
    record {
      sessions = h.sessions;
      subscriptions = left_by i h.subscriptions;
      registrations = left_by i h.registrations;
      calls = map (dropped i) h.calls;
    }

-- ---- bytes that are lent to be written
-- the bytes with others in their place from a place on
unfoldable pub put : List ℕ → ℕ → List ℕ → List ℕ
put s at b = take at s ++ (b ++ drop (at + length b) s)
