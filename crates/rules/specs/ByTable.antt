-- The state rules by table, as `lawful` tests them: each table in one pass, and its pairs in another. proofs/Together.antt shows that they are
-- the five rules of `model`.
use Rattle.std.specs.Prelude.{ℕ, Bool, cond, ◌&&◌, List, leb, get_or}
use Rattle.seq.specs.Lists.{every, pairwise}
use Rattle.uri.specs.Uri.{TextRule, valid_topic, valid_procedure}
use Rattle.pattern.specs.declared.Row.{Row}
use Rattle.model.specs.declared.Session.{Session}
use Rattle.model.specs.declared.Table.{Table}
use Rattle.model.specs.declared.HeldCall.{HeldCall}
use Rattle.model.specs.declared.Hub.{Hub}
use Rattle.seq.specs.Numbers.{last_id}
use Rattle.model.specs.State.{no_session, is_open, unused, holder_count, idle}
use Rattle.model.specs.Rules.{is_zero, in_range, zero_row, session_zero, id_in_range, ids_apart, holders_open, text_good, used_row, rows_apart}
use Rattle.model.specs.Rules.{some_member, one_owner, calls_apart, counters_low}
use Rattle.image.specs.declared.Kind.{Kind}
use Rattle.image.specs.declared.Kind.TheVariants.{Members, Owner}

-- ---- sessions
unfoldable pub session_lawful : Session → Bool
session_lawful s = session_zero s && (id_in_range s && counters_low s)

unfoldable pub sessions_lawful : List Session → Bool
sessions_lawful ss = every session_lawful ss && pairwise ids_apart ss

-- ---- rows
-- what the texts of a subscription's or a registration's rows obey, and how many holders they have
abbrev pub rule_of : Kind → TextRule
rule_of Members = valid_topic
rule_of Owner = valid_procedure

abbrev pub wanted_of : Kind → ℕ → Bool
wanted_of Members = some_member
wanted_of Owner = one_owner

-- rule 3 of a used row, but for its number
unfoldable pub held_lawful : List Session → Kind → Row → Bool
held_lawful ss kind r = wanted_of kind (holder_count r) && (holders_open ss r.holders && text_good (rule_of kind) r)

unfoldable pub row_lawful : List Session → ℕ → Kind → Row → Bool
row_lawful ss counter kind r = cond (unused r) (zero_row r) (used_row ss counter (rule_of kind) (wanted_of kind) r)

unfoldable pub table_lawful : List Session → Kind → Table → Bool
table_lawful ss kind t =
    leb t.counter last_id && (every (row_lawful ss t.counter kind) t.rows && pairwise rows_apart t.rows)

-- ---- held calls
-- an unused one: all zero
unfoldable pub zero_call : HeldCall → Bool
zero_call c = is_zero c.caller && (is_zero c.callee && is_zero c.invocation)

-- one that joins open sessions, its caller's and its callee's, with numbers up to their counters
unfoldable pub joins : Session → Session → HeldCall → Bool
joins caller callee c =
    is_open caller && (is_open callee && (leb c.request caller.request && in_range c.invocation callee.invocation))

unfoldable pub call_lawful : List Session → HeldCall → Bool
call_lawful ss c = cond (idle c) (zero_call c) (joins (get_or ss c.caller no_session) (get_or ss c.callee no_session) c)

unfoldable pub calls_lawful : List Session → List HeldCall → Bool
calls_lawful ss cs = every (call_lawful ss) cs && pairwise calls_apart cs

-- ---- all of them
unfoldable pub by_table : Hub → Bool
by_table h =
    sessions_lawful h.sessions
    && (table_lawful h.sessions Members h.subscriptions
    && (table_lawful h.sessions Owner h.registrations && calls_lawful h.sessions h.calls))
