-- Each clause of the five state rules broken alone, computed: one lawful hub with its numbers at their ends, and hubs that differ from it in
-- one number, each of which breaks the rule named, and no other. The rules ask for no sizes, so few rows do. Assumes nothing.
use Prim.Native.Nat.{ℕ}
use mathlib.Core.Bool.{Bool, true, false, cond}
use mathlib.Core.List.{List, [], ◌∷◌, ◌++◌, map}
use mathlib.Core.Path.{◌≡◌, refl}
use lib.ListN.{replicate, set}
use Rattle.seq.specs.Bytes.{chars, same, among}
use Rattle.seq.specs.Lists.{every, pairwise, tally, but_last, first_part, rest_parts}
use Rattle.uri.specs.declared.Policy.{Policy}
use Rattle.uri.specs.declared.Policy.TheVariants.{Exact, Prefix}
use Rattle.uri.specs.Uri.{same_policy, part_end, filled, components_filled, reserved_first, valid_text, valid_topic, valid_procedure}
use Rattle.pattern.specs.declared.Row.{Row}
use Rattle.pattern.specs.Choice.{no_row}
use Rattle.model.specs.declared.Status.{Status}
use Rattle.model.specs.declared.Status.TheVariants.{Closed, Attached, Open}
use Rattle.model.specs.declared.Session.{Session}
use Rattle.model.specs.declared.Table.{Table}
use Rattle.model.specs.declared.HeldCall.{HeldCall}
use Rattle.model.specs.declared.Hub.{Hub}
use Rattle.model.specs.State.{with_status, no_call, session, with_session, padded, with_row, with_subscriptions, with_registrations, idle, with_call}
use Rattle.model.specs.Rules.{zero_row, row_zero, session_zero, call_zero, rule1, id_in_range, ids_apart, rule2, holders_open, text_good, used_row, row_good, rows_apart, table_good, rule3, call_good, calls_apart, rule4, counters_low, rule5, rules}

-- ---- a lawful hub: slots 0 and 1 open, 2 attached, 3 closed; an unused row in each table
abbrev last : ℕ
last = 9007199254740992

abbrev above : ℕ
above = 9007199254740993

abbrev slot : Status → ℕ → ℕ → ℕ → Session
slot status id request invocation = record { status = status; id = id; request = request; invocation = invocation }

abbrev row : ℕ → Policy → List Bool → ℕ → List ℕ → Row
row number policy holders len text = record { number = number; policy = policy; holders = holders; len = len; text = text }

abbrev held : ℕ → ℕ → ℕ → ℕ → HeldCall
held caller request callee invocation = record { caller = caller; request = request; callee = callee; invocation = invocation }

abbrev table : ℕ → List Row → Table
table counter rows = record { counter = counter; rows = rows }

-- holders: slots 0 and 1, one of them, none, and slot 2, which is not open
abbrev both : List Bool
both = true ∷ true ∷ false ∷ false ∷ []

abbrev one : List Bool
one = true ∷ false ∷ false ∷ false ∷ []

abbrev none : List Bool
none = false ∷ false ∷ false ∷ false ∷ []

abbrev absent : List Bool
absent = true ∷ false ∷ true ∷ false ∷ []

abbrev text : List ℕ
text = padded (chars "hub.ab")

-- a text of 128 bytes
abbrev long : List ℕ
long = replicate 128 97

abbrev lawful : Hub
lawful =
    record {
      sessions = slot Open 1 last last ∷ slot Open last last last ∷ with_status Attached ∷ with_status Closed ∷ [];
      subscriptions = table last (row 1 Exact both 6 text ∷ row last Prefix one 6 text ∷ row 2 Exact one 128 long ∷ no_row ∷ []);
      registrations = table last (row 1 Exact one 7 (padded (chars "wamq.ab")) ∷ row last Prefix one 6 text ∷ no_row ∷ []);
      calls = held 0 last 1 1 ∷ held 0 1 1 last ∷ no_call ∷ [];
    }

-- ---- one number of it changed
abbrev at : ℕ → Session → Hub
at i s = with_session lawful i s

abbrev subscribed : ℕ → Row → Hub
subscribed k r = with_subscriptions lawful (with_row lawful.subscriptions k r)

abbrev registered : ℕ → Row → Hub
registered k r = with_registrations lawful (with_row lawful.registrations k r)

abbrev called : ℕ → HeldCall → Hub
called k c = with_call lawful k c

-- the numbers of the rules that a hub breaks
abbrev if_broken : Bool → ℕ → List ℕ
if_broken kept n = cond kept [] (n ∷ [])

abbrev broken : Hub → List ℕ
broken h = if_broken (rule1 h) 1 ++ if_broken (rule2 h) 2 ++ if_broken (rule3 h) 3 ++ if_broken (rule4 h) 4 ++ if_broken (rule5 h) 5

-- whether a hub keeps the rules, and those it breaks
abbrev Judged : Type 0
Judged = record { kept : Bool; broken : List ℕ }

abbrev judged : Hub → Judged
judged h = record { kept = rules h; broken = broken h }

abbrev breaks : ℕ → Judged
breaks n = record { kept = false; broken = n ∷ [] }

abbrev unused_rows : (ℕ → Row → Hub) → ℕ → List Hub
unused_rows put k =
    -- policy, holder, length, text
    put k (row 0 Prefix (replicate 8 false) 0 (replicate 128 0))
    ∷ put k (row 0 Exact (true ∷ replicate 7 false) 0 (replicate 128 0))
    ∷ put k (row 0 Exact (replicate 8 false) 1 (replicate 128 0))
    ∷ put k (row 0 Exact (replicate 8 false) 0 (set (replicate 128 0) 127 1))
    ∷ []

abbrev first : List Hub
first =
    -- a closed slot: ID, request, invocation; an attached one
    at 3 (slot Closed 1 0 0) ∷ at 3 (slot Closed 0 1 0) ∷ at 3 (slot Closed 0 0 1)
    ∷ at 2 (slot Attached 1 0 0) ∷ at 2 (slot Attached 0 1 0) ∷ at 2 (slot Attached 0 0 1)
    -- an unused call: caller, callee, invocation
    ∷ called 2 (held 1 0 0 0) ∷ called 2 (held 0 0 1 0) ∷ called 2 (held 0 0 0 1)
    ∷ unused_rows subscribed 3 ++ unused_rows registered 2

abbrev second : List Hub
second =
    -- an open session's ID: 0, past 2^53, another's
    at 0 (slot Open 0 last last) ∷ at 1 (slot Open above last last) ∷ at 1 (slot Open 1 last last) ∷ []

abbrev third : List Hub
third =
    -- a number past the counter
    subscribed 1 (row above Prefix one 6 text) ∷ registered 1 (row above Prefix one 6 text)
    -- a space; an empty component; in a procedure alone, a first component `wamp`
    ∷ subscribed 0 (row 1 Exact both 6 (padded (chars "hub ab")))
    ∷ subscribed 0 (row 1 Exact both 6 (padded (chars "hub..b")))
    ∷ registered 0 (row 1 Exact one 7 (padded (chars "wamp.ab")))
    -- a length of 129; a byte past the length
    ∷ subscribed 2 (row 2 Exact one 129 long)
    ∷ subscribed 0 (row 1 Exact both 6 (set text 6 97)) ∷ registered 1 (row last Prefix one 6 (set text 127 1))
    -- a holder that is not open; no holder; two owners
    ∷ subscribed 1 (row last Prefix absent 6 text)
    ∷ subscribed 1 (row last Prefix none 6 text) ∷ registered 1 (row last Prefix none 6 text) ∷ registered 1 (row last Prefix both 6 text)
    -- another row's number; another row's policy and text
    ∷ subscribed 1 (row 1 Prefix one 6 text) ∷ registered 1 (row 1 Prefix one 6 text)
    ∷ subscribed 1 (row last Exact one 6 text)
    ∷ []

abbrev fourth : List Hub
fourth =
    -- a caller or callee that is not open
    called 0 (held 2 last 1 1) ∷ called 0 (held 0 last 2 1)
    -- a request past the caller's; an invocation of 0, and one past the callee's
    ∷ called 0 (held 0 above 1 1) ∷ called 0 (held 0 last 1 0) ∷ called 1 (held 0 1 1 above)
    -- another call's caller and request; another's callee and invocation
    ∷ called 1 (held 0 last 1 last) ∷ called 1 (held 0 1 1 1)
    ∷ []

abbrev fifth : List Hub
fifth =
    at 0 (slot Open 1 above last) ∷ at 0 (slot Open 1 last above)
    ∷ with_subscriptions lawful (table above lawful.subscriptions.rows) ∷ with_registrations lawful (table above lawful.registrations.rows) ∷ []

abbrev each : List Hub → List Judged
each hs = map judged hs

pub record Broken : Type 0 where
  pub kept : judged lawful ≡ record { kept = true; broken = [] }
  pub rule1 : each first ≡ replicate 17 (breaks 1)
  pub rule2 : each second ≡ replicate 3 (breaks 2)
  pub rule3 : each third ≡ replicate 15 (breaks 3)
  pub rule4 : each fourth ≡ replicate 7 (breaks 4)
  pub rule5 : each fifth ≡ replicate 4 (breaks 5)

pub broken-each : Broken
unfolding same among every pairwise tally but_last first_part rest_parts same_policy part_end filled components_filled reserved_first valid_text
    valid_topic valid_procedure session with_session padded with_row with_subscriptions with_registrations idle with_call
    zero_row row_zero session_zero call_zero rule1 id_in_range ids_apart rule2 holders_open text_good used_row row_good rows_apart table_good rule3
    call_good calls_apart rule4 counters_low rule5 rules
broken-each = record { kept = refl; rule1 = refl; rule2 = refl; rule3 = refl; rule4 = refl; rule5 = refl }
