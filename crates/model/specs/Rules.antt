-- The five state rules (PROTOCOL, "State rules"), as tests in its order and numbering, and as propositions that say the same.
use Rattle.std.specs.Prelude.{◌≤◌, ◌≡◌, ◌&&◌, ◌||◌, ◌∷◌}
use Rattle.model.specs.Words.{last_id, ℕ, zero, Bool, true, false, not, List, [], length, get_or, drop, eqb, leb, every, pairwise, All, Pairs, same, longest, policy_no, same_policy, TextRule, valid_topic, valid_procedure, no_row, row_text, Session, Table, HeldCall, Hub, Row}
use Rattle.model.specs.State.{slots, row_count, no_call, session, IsOpen, phase_at, is_open, unused, holds, holder_count, idle}

abbrev pub is_zero : ℕ → Bool
is_zero n = eqb n 0

abbrev pub in_range : ℕ → ℕ → Bool
in_range n last = leb 1 n && leb n last

-- ---- rule 1: unused rows, and closed and attached slots but for their status, are all zero
unfoldable pub zero_row : Row → Bool
zero_row r =
    is_zero r.number && (is_zero (policy_no r.policy) && (every not r.holders && (is_zero r.len && every is_zero r.text)))

unfoldable pub row_zero : Row → Bool
row_zero r = not (unused r) || zero_row r

unfoldable pub session_zero : Session → Bool
session_zero s = is_open s || (is_zero s.id && (is_zero s.request && is_zero s.invocation))

unfoldable pub call_zero : HeldCall → Bool
call_zero c = not (idle c) || (is_zero c.caller && (is_zero c.callee && is_zero c.invocation))

unfoldable pub rule1 : Hub → Bool
rule1 h =
    every session_zero h.sessions
    && (every row_zero h.subscriptions.rows && (every row_zero h.registrations.rows && every call_zero h.calls))

-- ---- rule 2: open session IDs are distinct and in range
unfoldable pub id_in_range : Session → Bool
id_in_range s = not (is_open s) || in_range s.id last_id

unfoldable pub ids_apart : Session → Session → Bool
ids_apart s t = not (is_open s && is_open t) || not (eqb s.id t.id)

unfoldable pub rule2 : Hub → Bool
rule2 h = every id_in_range h.sessions && pairwise ids_apart h.sessions

-- ---- rule 3: row texts obey their rule and are zero past their length, IDs are distinct, from 1 to their counter, text and policy
-- distinct, owners and members open, members not none
-- the holders are open sessions
unfoldable pub holders_open : List Session → List Bool → Bool
holders_open ss [] = true
holders_open [] (b ∷ bs) = not b && holders_open [] bs
holders_open (s ∷ ss) (b ∷ bs) = (not b || is_open s) && holders_open ss bs

-- a row's text obeys the rule of its use, and is zero past its length
unfoldable pub text_good : TextRule → Row → Bool
text_good rule r =
    leb r.len longest && (rule (row_text r) r.policy && every is_zero (drop r.len r.text))

-- a used row; `rule`: what its text obeys; `wanted`: the test of how many holders it has
unfoldable pub used_row : List Session → ℕ → TextRule → (ℕ → Bool) → Row → Bool
used_row ss counter rule wanted r =
    leb r.number counter && (text_good rule r && (holders_open ss r.holders && wanted (holder_count r)))

unfoldable pub row_good : List Session → ℕ → TextRule → (ℕ → Bool) → Row → Bool
row_good ss counter rule wanted r = unused r || used_row ss counter rule wanted r

unfoldable pub rows_apart : Row → Row → Bool
rows_apart r s =
    unused r || (unused s || (not (eqb r.number s.number) && not (same_policy r.policy s.policy && same (row_text r) (row_text s))))

unfoldable pub table_good : List Session → TextRule → (ℕ → Bool) → Table → Bool
table_good ss rule wanted t = every (row_good ss t.counter rule wanted) t.rows && pairwise rows_apart t.rows

-- a subscription's members are not none; a registration has one owner
abbrev pub some_member : ℕ → Bool
some_member n = leb 1 n

abbrev pub one_owner : ℕ → Bool
one_owner n = eqb n 1

unfoldable pub rule3 : Hub → Bool
rule3 h = table_good h.sessions valid_topic some_member h.subscriptions && table_good h.sessions valid_procedure one_owner h.registrations

-- ---- rule 4: held calls as in demand 3 (each joins open sessions, and they are distinct both ways), their numbers from 1 to the counters
unfoldable pub call_good : Hub → HeldCall → Bool
call_good h c =
    idle c || (is_open (session h c.caller) && (is_open (session h c.callee)
    && (leb c.request (session h c.caller).request && in_range c.invocation (session h c.callee).invocation)))

unfoldable pub calls_apart : HeldCall → HeldCall → Bool
calls_apart c d =
    idle c || (idle d || (not (eqb c.caller d.caller && eqb c.request d.request)
    && not (eqb c.callee d.callee && eqb c.invocation d.invocation)))

unfoldable pub rule4 : Hub → Bool
rule4 h = every (call_good h) h.calls && pairwise calls_apart h.calls

-- ---- rule 5: counters at most 2^53
unfoldable pub counters_low : Session → Bool
counters_low s = leb s.request last_id && leb s.invocation last_id

unfoldable pub rule5 : Hub → Bool
rule5 h =
    every counters_low h.sessions && (leb h.subscriptions.counter last_id && leb h.registrations.counter last_id)

unfoldable pub rules : Hub → Bool
rules h = rule1 h && (rule2 h && (rule3 h && (rule4 h && rule5 h)))

-- ==== the same as propositions; proofs/Lawful.antt shows that `rules h ≡ true` exactly if `Lawful h`

-- a slot's session is open
abbrev pub OpenAt : Hub → ℕ → Type 0
OpenAt h i = phase_at h i ≡ IsOpen

-- rule 3 of a used row: its text is at most 128 bytes, obeys the rule of its use, and every byte past it is zero
pub record UsedRow (h : Hub) (counter : ℕ) (rule : TextRule) (Wanted : ℕ → Type 0) (r : Row) : Type 0 where
  pub number : r.number ≤ counter
  pub len : r.len ≤ 128
  pub text : rule (row_text r) r.policy ≡ true
  pub zero : (k : ℕ) → r.len ≤ k → get_or r.text k 0 ≡ 0
  pub holding : (i : ℕ) → holds i r ≡ true → OpenAt h i
  pub wanted : Wanted (holder_count r)

-- two used rows have different numbers, and differ in policy or text
pub record RowsApart (r s : Row) : Type 0 where
  pub numbers : unused r ≡ false → unused s ≡ false → r.number ≡ s.number → ⊥
  pub texts : unused r ≡ false → unused s ≡ false → r.policy ≡ s.policy → row_text r ≡ row_text s → ⊥

pub record GoodTable (h : Hub) (rule : TextRule) (Wanted : ℕ → Type 0) (t : Table) : Type 0 where
  pub each : All (λ r. unused r ≡ false → UsedRow h t.counter rule Wanted r) t.rows
  pub apart : Pairs RowsApart t.rows

-- rule 4 of a held call
pub record JoinedCall (h : Hub) (c : HeldCall) : Type 0 where
  pub calling : OpenAt h c.caller
  pub serving : OpenAt h c.callee
  pub request : c.request ≤ (session h c.caller).request
  pub first : 1 ≤ c.invocation
  pub invocation : c.invocation ≤ (session h c.callee).invocation

-- two held calls differ in caller or request number, and in callee or invocation number
pub record CallsApart (c d : HeldCall) : Type 0 where
  pub requests : idle c ≡ false → idle d ≡ false → c.caller ≡ d.caller → c.request ≡ d.request → ⊥
  pub invocations : idle c ≡ false → idle d ≡ false → c.callee ≡ d.callee → c.invocation ≡ d.invocation → ⊥

abbrev pub SomeMember : ℕ → Type 0
SomeMember n = 1 ≤ n

abbrev pub OneOwner : ℕ → Type 0
OneOwner n = n ≡ 1

-- the rows' and texts' sizes: those of the arrays, in every hub that the code can hold
pub record SizedRow (r : Row) : Type 0 where
  pub holders : length r.holders ≡ slots
  pub text : length r.text ≡ longest

pub record Sized (h : Hub) : Type 0 where
  pub sessions : length h.sessions ≡ slots
  pub subscriptions : length h.subscriptions.rows ≡ row_count
  pub registrations : length h.registrations.rows ≡ row_count
  pub calls : length h.calls ≡ row_count
  pub members : All SizedRow h.subscriptions.rows
  pub owners : All SizedRow h.registrations.rows

-- the five rules
pub record Lawful (h : Hub) : Type 0 where
  -- rule 1
  pub idle_slots : (i : ℕ) → (OpenAt h i → ⊥) → ((session h i).id ≡ 0) × ((session h i).request ≡ 0) × ((session h i).invocation ≡ 0)
  pub free_subscriptions : All (λ r. unused r ≡ true → r ≡ no_row) h.subscriptions.rows
  pub free_registrations : All (λ r. unused r ≡ true → r ≡ no_row) h.registrations.rows
  pub free_calls : All (λ c. idle c ≡ true → c ≡ no_call) h.calls
  -- rule 2
  pub ids : (i : ℕ) → OpenAt h i → (1 ≤ (session h i).id) × ((session h i).id ≤ last_id)
  pub ids_distinct : (i j : ℕ) → OpenAt h i → OpenAt h j → (session h i).id ≡ (session h j).id → i ≡ j
  -- rule 3
  pub subscriptions : GoodTable h valid_topic SomeMember h.subscriptions
  pub registrations : GoodTable h valid_procedure OneOwner h.registrations
  -- rule 4
  pub joined : All (λ c. idle c ≡ false → JoinedCall h c) h.calls
  pub distinct : Pairs CallsApart h.calls
  -- rule 5
  pub counters : (i : ℕ) → ((session h i).request ≤ last_id) × ((session h i).invocation ≤ last_id)
  pub subscription_counter : h.subscriptions.counter ≤ last_id
  pub registration_counter : h.registrations.counter ≤ last_id
