-- What is stored over the lent state's bytes. Bytes that are not as many as a state has stay as they are.
use Rattle.std.specs.Prelude.{ℕ, ◌+◌, ◌*◌, Bool, false, cond, ◌&&◌, List, length, take, drop, get_or, eqb, ltb}
use Rattle.seq.specs.Lists.{joined}
use Rattle.pattern.specs.declared.Row.{Row}
use Rattle.model.specs.declared.Session.{Session}
use Rattle.model.specs.declared.HeldCall.{HeldCall}
use Rattle.model.specs.State.{row_count, holds, left, dropped}
use Rattle.image.specs.declared.Kind.{Kind}
use Rattle.image.specs.declared.Kind.TheVariants.{Members, Owner}
use Rattle.image.specs.Image.{row_size, call_size, image_size, calls_at, table_at, put, digits, cut, session_bytes, row_of, row_bytes, call_of, call_bytes}

-- ---- what a step changes (PROTOCOL, "State rules")
unfoldable pub kept_sessions : List ℕ → List Session → List ℕ
kept_sessions s xs = cond (eqb (length s) image_size) (put s 0 (joined session_bytes xs)) s

-- held call k
unfoldable pub kept_call : List ℕ → ℕ → HeldCall → List ℕ
kept_call s k call = cond (eqb (length s) image_size && ltb k row_count) (put s (calls_at + k * call_size) (call_bytes call)) s

-- where row k of a table begins
abbrev pub row_start : Kind → ℕ → ℕ
row_start kind k = table_at kind + 8 + k * row_size

-- row k of a table
abbrev pub row_put : List ℕ → Kind → ℕ → Row → List ℕ
row_put s kind k row = cond (ltb k row_count) (put s (row_start kind k) (row_bytes kind row)) s

-- the same, and the table's counter
unfoldable pub kept_row : List ℕ → Kind → ℕ → ℕ → Row → List ℕ
kept_row s kind k counter row = cond (eqb (length s) image_size) (row_put (put s (table_at kind) (digits 8 counter)) kind k row) s

-- ---- a session's end (PROTOCOL, "State rules"): its rows, memberships and held calls are freed
-- a slot is one of a row's holders
abbrev pub is_among : ℕ → List Bool → Bool
is_among slot holders = get_or holders slot false

-- a row's bytes without the slot; those of a row that it does not hold stay
unfoldable pub left_bytes : Kind → ℕ → List ℕ → List ℕ
left_bytes kind slot s = cond (holds slot (row_of kind s)) (row_bytes kind (left slot (row_of kind s))) s

-- row k of a table without the slot
abbrev pub left_row : Kind → ℕ → ℕ → List ℕ → List ℕ
left_row kind slot k s = put s (row_start kind k) (left_bytes kind slot (take row_size (drop (row_start kind k) s)))

-- a held call's bytes without the slot
unfoldable pub dropped_bytes : ℕ → List ℕ → List ℕ
dropped_bytes slot s = call_bytes (dropped slot (call_of s))

-- n rows of w bytes from a place on, each with what f makes of it in its place
unfoldable pub changed : (List ℕ → List ℕ) → ℕ → ℕ → ℕ → List ℕ → List ℕ
changed f w n at s = put s at (joined f (cut w n (drop at s)))

-- a table's rows without the slot
abbrev pub left_table : Kind → ℕ → List ℕ → List ℕ
left_table kind slot s = changed (left_bytes kind slot) row_size row_count (table_at kind + 8) s

-- the held calls without the slot
abbrev pub dropped_calls : ℕ → List ℕ → List ℕ
dropped_calls slot s = changed (dropped_bytes slot) call_size row_count calls_at s

unfoldable pub ended_bytes : ℕ → List ℕ → List ℕ
ended_bytes slot s = cond (eqb (length s) image_size) (dropped_calls slot (left_table Owner slot (left_table Members slot s))) s
