-- The hub's state (PROTOCOL, "Sizes" and "State rules"): its parts, its searches, and its changes. An unused row has number 0.
use Rattle.std.specs.Prelude.{◌+◌, ◌-◌, ◌&&◌, ◌||◌, ◌++◌}
use Rattle.model.specs.Words.{ℕ, Bool, true, false, not, cond, List, map, length, get_or, set, replicate, eqb, first, on_found, tally, same, longest, same_policy, no_row, row_text, Format, Json, MsgPack, Status, Closed, Attached, Open, AttachedMsgPack, OpenMsgPack, Session, Table, HeldCall, Hub, Policy, Row}

abbrev pub slots : ℕ
slots = 8

abbrev pub row_count : ℕ
row_count = 32

-- ---- an empty hub: slots closed, rows unused, counters 0
abbrev pub with_status : Status → Session
with_status status = record { status = status; id = 0; request = 0; invocation = 0 }

abbrev pub no_session : Session
no_session = with_status Closed

abbrev pub no_call : HeldCall
no_call = record { caller = 0; request = 0; callee = 0; invocation = 0 }

abbrev pub no_table : Table
no_table = record { counter = 0; rows = replicate row_count no_row }

unfoldable pub empty_hub : Hub
empty_hub =
    record { sessions = replicate slots no_session; subscriptions = no_table; registrations = no_table; calls = replicate row_count no_call }

-- ---- sessions
-- the row of a slot
unfoldable pub session : Hub → ℕ → Session
session h i = get_or h.sessions i no_session

-- what a status is, whatever its format
pub data Phase : Type 0 where
  IsClosed IsAttached IsOpen : Phase

abbrev pub phase : Status → Phase
phase status = elim status [ Closed ↦ IsClosed | Attached ↦ IsAttached | Open ↦ IsOpen | AttachedMsgPack ↦ IsAttached | OpenMsgPack ↦ IsOpen ]

abbrev pub is_open_phase : Phase → Bool
is_open_phase p = elim p [ IsClosed ↦ false | IsAttached ↦ false | IsOpen ↦ true ]

abbrev pub is_open_status : Status → Bool
is_open_status status = is_open_phase (phase status)

abbrev pub is_open : Session → Bool
is_open s = is_open_status s.status

abbrev pub phase_at : Hub → ℕ → Phase
phase_at h i = phase (session h i).status

-- the format that a slot speaks; a closed one speaks none, and nothing is read from it or written to it
abbrev pub format_of : Status → Format
format_of status = elim status [ Closed ↦ Json | Attached ↦ Json | Open ↦ Json | AttachedMsgPack ↦ MsgPack | OpenMsgPack ↦ MsgPack ]

-- attached and open in a format
abbrev pub attached_in : Format → Status
attached_in f = elim f [ Json ↦ Attached | MsgPack ↦ AttachedMsgPack ]

abbrev pub open_in : Format → Status
open_in f = elim f [ Json ↦ Open | MsgPack ↦ OpenMsgPack ]

unfoldable pub format_at : Hub → ℕ → Format
format_at h i = format_of (session h i).status

unfoldable pub with_session : Hub → ℕ → Session → Hub
with_session h i s =
    record { sessions = set h.sessions i s; subscriptions = h.subscriptions; registrations = h.registrations; calls = h.calls }

-- ---- subscription and registration rows
abbrev pub unused : Row → Bool
unused r = eqb r.number 0

-- slot i is a holder: a member of the subscription, the owner of the registration
abbrev pub holds : ℕ → Row → Bool
holds i r = get_or r.holders i false

abbrev pub is_holder : Bool → Bool
is_holder b = b

abbrev pub holder_count : Row → ℕ
holder_count r = tally is_holder r.holders

-- a registration's owner
unfoldable pub owner : Row → ℕ
owner r = on_found (first is_holder r.holders) (λ i. i) slots

-- a text's bytes, and zeros up to the row's size
unfoldable pub padded : List ℕ → List ℕ
padded t = t ++ replicate (longest - length t) 0

unfoldable pub new_row : ℕ → Policy → ℕ → List ℕ → Row
new_row number policy i t =
    record { number = number; policy = policy; holders = set (replicate slots false) i true; len = length t; text = padded t }

unfoldable pub with_holders : Row → List Bool → Row
with_holders r hs = record { number = r.number; policy = r.policy; holders = hs; len = r.len; text = r.text }

unfoldable pub joined : ℕ → Row → Row
joined i r = with_holders r (set r.holders i true)

-- without holder i: the last one's leaving frees the row
unfoldable pub left : ℕ → Row → Row
left i r = cond (holds i r) (cond (eqb (holder_count r) 1) no_row (with_holders r (set r.holders i false))) r

-- a used row of this policy and text
unfoldable pub is_of : Policy → List ℕ → Row → Bool
is_of policy t r = not (unused r) && (same_policy r.policy policy && same (row_text r) t)

-- a used row of this number that slot i holds
unfoldable pub is_held_by : ℕ → ℕ → Row → Bool
is_held_by i number r = not (unused r) && (eqb r.number number && holds i r)

abbrev pub row_at : Table → ℕ → Row
row_at t k = get_or t.rows k no_row

unfoldable pub with_row : Table → ℕ → Row → Table
with_row t k r = record { counter = t.counter; rows = set t.rows k r }

-- a new row in place k, under the next number
unfoldable pub added : Table → ℕ → Policy → ℕ → List ℕ → Table
added t k policy i text =
    record { counter = t.counter + 1; rows = set t.rows k (new_row (t.counter + 1) policy i text) }

unfoldable pub left_by : ℕ → Table → Table
left_by i t = record { counter = t.counter; rows = map (left i) t.rows }

unfoldable pub with_subscriptions : Hub → Table → Hub
with_subscriptions h t = record { sessions = h.sessions; subscriptions = t; registrations = h.registrations; calls = h.calls }

unfoldable pub with_registrations : Hub → Table → Hub
with_registrations h t = record { sessions = h.sessions; subscriptions = h.subscriptions; registrations = t; calls = h.calls }

-- ---- held calls
unfoldable pub idle : HeldCall → Bool
idle c = eqb c.request 0

-- a held call that slot i serves under an invocation number
unfoldable pub serves : ℕ → ℕ → HeldCall → Bool
serves i invocation c = not (idle c) && (eqb c.callee i && eqb c.invocation invocation)

-- a held call whose caller or callee is slot i
unfoldable pub concerns : ℕ → HeldCall → Bool
concerns i c = not (idle c) && (eqb c.caller i || eqb c.callee i)

-- a held call that slot i serves for another slot
unfoldable pub serves_other : ℕ → HeldCall → Bool
serves_other i c = not (idle c) && (eqb c.callee i && not (eqb c.caller i))

unfoldable pub dropped : ℕ → HeldCall → HeldCall
dropped i c = cond (concerns i c) no_call c

abbrev pub call_at : Hub → ℕ → HeldCall
call_at h k = get_or h.calls k no_call

unfoldable pub with_call : Hub → ℕ → HeldCall → Hub
with_call h k c =
    record { sessions = h.sessions; subscriptions = h.subscriptions; registrations = h.registrations; calls = set h.calls k c }

-- ---- a session's end: its rows, memberships and held calls are freed, and the slot gets a status
unfoldable pub ended : Hub → ℕ → Status → Hub
ended h i status =
    record {
      sessions = set h.sessions i (with_status status);
      subscriptions = left_by i h.subscriptions;
      registrations = left_by i h.registrations;
      calls = map (dropped i) h.calls;
    }
