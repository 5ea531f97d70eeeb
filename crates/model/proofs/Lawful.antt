-- The state rules as tests and as propositions say the same: `rules h ≡ true` exactly if `Lawful h` (specs/Rules.antt).
-- From the test, a row that is all zero is `no_row` by the sizes of its arrays, so `Sized h` is needed that way; the other way it is not.
-- For each test there are two lemmas, one for each direction. Assumes nothing.
use Prim.Native.Nat.{ℕ, zero, suc, ◌+◌, ◌-◌, ◌≤◌}
use mathlib.Core.Path.{◌≡◌, refl, sym, ap, ◌∙◌}
use mathlib.Core.Bool.{Bool, true, false, not, ◌&&◌, ◌||◌}
use mathlib.Core.List.{List, [], ◌∷◌}
use native.Mathlib.Omega.{arith}
use lib.ListN.{get_or, drop, replicate}
use lib.Seq.{get_or-drop}
use lib.Dec.{eqb, leb}
use borrow.Author.Tests.{leb-true, le-leb, eqb-true, eqb-false, eq-eqb, ne_eqb, not-true, not-false}
use Rattle.seq.specs.Lists.{every, pairwise, All}
use Rattle.seq.specs.Bytes.{same}
use Rattle.seq.proofs.Logic.{split, clash, and_left, and_right, and_both, or-given, or_right, not-both, both-not}
use Rattle.seq.proofs.Lists.{every-replicate}
use Rattle.seq.proofs.Rules.{all_map, all-at, all_both, all-of-at, pairs-map, pairs-at, pairs-of-at, every-all, all-every, pairwise-pairs, pairs-pairwise}
use Rattle.seq.proofs.Bytes.{same-eq, same_refl}
use Rattle.uri.specs.declared.Policy.{Policy}
use Rattle.uri.specs.declared.Policy.TheVariants.{Exact, Prefix, Wildcard}
use Rattle.uri.specs.Uri.{longest, policy_no, same_policy, TextRule, valid_topic, valid_procedure}
use Rattle.uri.proofs.Laws.{policy-same, policy-refl}
use Rattle.pattern.specs.declared.Row.{Row}
use Rattle.pattern.specs.Choice.{no_row, row_text}
use Rattle.model.specs.declared.Status.{Status}
use Rattle.model.specs.declared.Session.{Session}
use Rattle.model.specs.declared.Table.{Table}
use Rattle.model.specs.declared.HeldCall.{HeldCall}
use Rattle.model.specs.declared.Hub.{Hub}
use Rattle.seq.specs.Numbers.{last_id}
use Rattle.model.specs.State.{slots, no_session, no_call, session, Phase, IsClosed, IsAttached, IsOpen, phase, is_open_phase, is_open_status, is_open, unused, holder_count, idle}
use Rattle.model.proofs.Formats.{closed-open}
use Rattle.model.specs.Rules.{is_zero, in_range, zero_row, row_zero, session_zero, call_zero, rule1, id_in_range, ids_apart, rule2, holders_open, text_good, used_row, row_good, rows_apart, table_good, some_member, one_owner, rule3, call_good, calls_apart, rule4, counters_low, rule5, rules, OpenAt, UsedRow, RowsApart, GoodTable, JoinedCall, CallsApart, SomeMember, OneOwner, SizedRow, Sized, Lawful}

-- ---- a status is open, or not
pub is-open : (s : Status) → phase s ≡ IsOpen → is_open_status s ≡ true
is-open s e = rw e

phase-is : (p : Phase) → is_open_phase p ≡ true → p ≡ IsOpen
phase-is IsClosed e = clash e refl
phase-is IsAttached e = clash e refl
phase-is IsOpen e = refl

pub open_is : (s : Status) → is_open_status s ≡ true → phase s ≡ IsOpen
open_is s e = phase-is (phase s) e

pub not-open : (s : Status) → (phase s ≡ IsOpen → ⊥) → is_open_status s ≡ false
not-open s n = split (is_open_status s) (λ e. absurd (n (open_is s e))) (λ e. e)

-- ---- a number from 1 to a last one
pub in-range : (n last : ℕ) → 1 ≤ n → n ≤ last → in_range n last ≡ true
in-range n last p q = and_both (le-leb 1 n p) (le-leb n last q)

pub range-in : (n last : ℕ) → in_range n last ≡ true → (1 ≤ n) × (n ≤ last)
range-in n last e = (leb-true 1 n (and_left (leb 1 n) _ e), leb-true n last (and_right (leb 1 n) _ e))

-- ---- rule 1
-- a slot that is not open is all zero but for its status
abbrev Blank : Session → Type 0
Blank s = (s.id ≡ 0) × (s.request ≡ 0) × (s.invocation ≡ 0)

session-zero : (s : Session) → ((phase s.status ≡ IsOpen → ⊥) → Blank s) → session_zero s ≡ true
unfolding session_zero
session-zero s f = or-given (is_open s) _ (λ n. let z = f (λ o. clash (is-open s.status o) n) in rw (z.0, z.1, z.2))

zero-session : (s : Session) → session_zero s ≡ true → (phase s.status ≡ IsOpen → ⊥) → Blank s
unfolding session_zero
zero-session s e n =
    let z = or_right (is_open s) _ e (not-open s.status n) in
    let y = and_right (is_zero s.id) _ z in (
      eqb-true _ 0 (and_left (is_zero s.id) _ z),
      eqb-true _ 0 (and_left (is_zero s.request) _ y),
      eqb-true _ 0 (and_right (is_zero s.request) _ y),
    )

-- an unused row is all zero
row-zero : (r : Row) → (unused r ≡ true → r ≡ no_row) → row_zero r ≡ true
unfolding row_zero zero_row every
row-zero r f = or-given (not (unused r)) _ (λ n. rw (f (not-false (unused r) n)))

exact-is : (p : Policy) → is_zero (policy_no p) ≡ true → p ≡ Exact
exact-is Exact e = refl
exact-is Prefix e = clash e refl
exact-is Wildcard e = clash e refl

no-row : (number : ℕ) (policy : Policy) (holders : List Bool) (len : ℕ) (text : List ℕ)
    → number ≡ 0 → policy ≡ Exact → holders ≡ replicate slots false → len ≡ 0 → text ≡ replicate longest 0
    → ◌≡◌ {A = Row} (record { number = number; policy = policy; holders = holders; len = len; text = text }) no_row
no-row number policy holders len text a b c d e = rw (a, b, c, d, e)

zero-row : (r : Row) → SizedRow r → row_zero r ≡ true → unused r ≡ true → r ≡ no_row
unfolding row_zero zero_row
zero-row r s e u =
    let a = or_right (not (unused r)) _ e (rw u) in
    let b = and_right (is_zero r.number) _ a in
    let c = and_right (is_zero (policy_no r.policy)) _ b in
    let d = and_right (every not r.holders) _ c in
    no-row r.number r.policy r.holders r.len r.text
    (eqb-true _ 0 u)
    (exact-is r.policy (and_left (is_zero (policy_no r.policy)) _ b))
    (every-replicate not false (λ x t. not-true x t) r.holders (and_left (every not r.holders) _ c) ∙ ap (λ n. replicate n false) s.holders)
    (eqb-true _ 0 (and_left (is_zero r.len) _ d))
    (every-replicate is_zero 0 (λ x t. eqb-true x 0 t) r.text (and_right (is_zero r.len) _ d) ∙ ap (λ n. replicate n 0) s.text)

rows-zero : (rs : List Row) → All (λ r. unused r ≡ true → r ≡ no_row) rs → every row_zero rs ≡ true
rows-zero rs a = all-every row_zero rs (all_map (λ r. unused r ≡ true → r ≡ no_row) _ row-zero rs a)

zero-rows : (rs : List Row) → All SizedRow rs → every row_zero rs ≡ true → All (λ r. unused r ≡ true → r ≡ no_row) rs
zero-rows rs s e = all_both SizedRow (λ r. row_zero r ≡ true) _ zero-row rs s (every-all row_zero rs e)

-- an unused held call is all zero
call-zero : (c : HeldCall) → (idle c ≡ true → c ≡ no_call) → call_zero c ≡ true
unfolding call_zero idle
call-zero c f = or-given (not (idle c)) _ (λ n. rw (f (not-false (idle c) n)))

no-call : (caller request callee invocation : ℕ) → caller ≡ 0 → request ≡ 0 → callee ≡ 0 → invocation ≡ 0
    → ◌≡◌ {A = HeldCall} (record { caller = caller; request = request; callee = callee; invocation = invocation }) no_call
no-call caller request callee invocation a b c d = rw (a, b, c, d)

zero-call : (c : HeldCall) → call_zero c ≡ true → idle c ≡ true → c ≡ no_call
unfolding call_zero idle
zero-call c e u =
    let a = or_right (not (idle c)) _ e (rw u) in
    let b = and_right (is_zero c.caller) _ a in
    no-call c.caller c.request c.callee c.invocation
    (eqb-true _ 0 (and_left (is_zero c.caller) _ a))
    (eqb-true _ 0 u)
    (eqb-true _ 0 (and_left (is_zero c.callee) _ b))
    (eqb-true _ 0 (and_right (is_zero c.callee) _ b))

-- ---- rule 2
id-in-range : (s : Session) → (phase s.status ≡ IsOpen → (1 ≤ s.id) × (s.id ≤ last_id)) → id_in_range s ≡ true
unfolding id_in_range
id-in-range s f =
    or-given (not (is_open s)) _ (λ n. let p = f (open_is s.status (not-false (is_open s) n)) in in-range s.id last_id p.0 p.1)

range-of-id : (s : Session) → id_in_range s ≡ true → phase s.status ≡ IsOpen → (1 ≤ s.id) × (s.id ≤ last_id)
unfolding id_in_range
range-of-id s e o = range-in s.id last_id (or_right (not (is_open s)) _ e (rw o))

-- two open sessions have different IDs
abbrev IdsApart : Session → Session → Type 0
IdsApart s t = phase s.status ≡ IsOpen → phase t.status ≡ IsOpen → s.id ≡ t.id → ⊥

ids-apart : (s t : Session) → IdsApart s t → ids_apart s t ≡ true
unfolding ids_apart
ids-apart s t f =
    or-given (not (is_open s && is_open t)) _
    (λ n.
    let b = not-false (is_open s && is_open t) n in
    rw (ne_eqb s.id t.id (f (open_is s.status (and_left (is_open s) _ b)) (open_is t.status (and_right (is_open s) _ b)))))

apart-ids : (s t : Session) → ids_apart s t ≡ true → IdsApart s t
unfolding ids_apart
apart-ids s t e p q = eqb-false s.id t.id (not-true _ (or_right (not (is_open s && is_open t)) _ e (rw (p, q))))

-- ---- rule 3
-- the holders are open sessions
holders-open : (ss : List Session) (bs : List Bool) → ((i : ℕ) → get_or bs i false ≡ true → phase (get_or ss i no_session).status ≡ IsOpen)
    → holders_open ss bs ≡ true
unfolding holders_open
holders-open ss [] f = refl
holders-open [] (b ∷ bs) f =
    and_both (split (not b) (λ n. n) (λ n. absurd (closed-open (f 0 (not-false b n))))) (holders-open [] bs (λ i. f (suc i)))
holders-open (s ∷ ss) (b ∷ bs) f =
    and_both (or-given (not b) (is_open s) (λ n. is-open s.status (f 0 (not-false b n)))) (holders-open ss bs (λ i. f (suc i)))

open-holder : (ss : List Session) (bs : List Bool) → holders_open ss bs ≡ true → (i : ℕ) → get_or bs i false ≡ true
    → phase (get_or ss i no_session).status ≡ IsOpen
unfolding holders_open
open-holder ss [] e i t = clash t refl
open-holder [] (b ∷ bs) e zero t = clash t (not-true b (and_left (not b) _ e))
open-holder [] (b ∷ bs) e (suc i) t = open-holder [] bs (and_right (not b) _ e) i t
open-holder (s ∷ ss) (b ∷ bs) e zero t = open_is s.status (or_right (not b) (is_open s) (and_left (not b || is_open s) _ e) (rw t))
open-holder (s ∷ ss) (b ∷ bs) e (suc i) t = open-holder ss bs (and_right (not b || is_open s) _ e) i t

-- the tests of two rows' numbers, and of their policies and texts
abbrev numbers_differ : Row → Row → Bool
numbers_differ r s = not (eqb r.number s.number)

abbrev texts_differ : Row → Row → Bool
texts_differ r s = not (same_policy r.policy s.policy && same (row_text r) (row_text s))

rows-apart : (r s : Row) → RowsApart r s → rows_apart r s ≡ true
unfolding rows_apart
rows-apart r s a =
    or-given (unused r) _
    (λ u. or-given (unused s) _
    (λ v. and_both {a = numbers_differ r s} {b = texts_differ r s}
    (rw (ne_eqb r.number s.number (a.numbers u v)))
    (not-both _ _ (λ p t. a.texts u v (policy-same _ _ p) (same-eq (row_text r) (row_text s) t)))))

apart-rows : (r s : Row) → rows_apart r s ≡ true → RowsApart r s
unfolding rows_apart
apart-rows r s e = record {
  numbers = λ u v. eqb-false r.number s.number (not-true _ (and_left (numbers_differ r s) (texts_differ r s) (differ u v)));
  texts = λ u v p t.
      both-not (same_policy r.policy s.policy) (same (row_text r) (row_text s)) (and_right (numbers_differ r s) (texts_differ r s) (differ u v))
      (rw p (policy-refl s.policy)) (rw t (same_refl (row_text s)));
}
  where
    differ : unused r ≡ false → unused s ≡ false → (numbers_differ r s && texts_differ r s) ≡ true
    differ u v = or_right (unused s) _ (or_right (unused r) _ e u) v

-- the bytes from a place on are zero: as a test, and for each place
pub zero-past : (n : ℕ) (s : List ℕ) → every is_zero (drop n s) ≡ true → (k : ℕ) → n ≤ k → get_or s k 0 ≡ 0
zero-past n s e k l =
    let z = all-at (λ b. is_zero b ≡ true) 0 (drop n s) (k - n) refl (every-all is_zero (drop n s) e) in
    let q : n + (k - n) ≡ k = omega arith in
    rw (get_or-drop n s (k - n) 0, q) at (eqb-true (get_or (drop n s) (k - n) 0) 0 z)

past-zero : (n : ℕ) (s : List ℕ) → ((k : ℕ) → n ≤ k → get_or s k 0 ≡ 0) → every is_zero (drop n s) ≡ true
past-zero n s f =
    all-every is_zero (drop n s)
    (all-of-at (λ b. is_zero b ≡ true) 0 (drop n s) (λ j. eq-eqb _ 0 (get_or-drop n s j 0 ∙ f (n + j) (omega arith))))

-- a table whose rows want `Wanted` holders, which the test `wanted` decides
module _ (h : Hub) (rule : TextRule) (wanted : ℕ → Bool) (Wanted : ℕ → Type 0) where
  row-used : ((n : ℕ) → wanted n ≡ true → Wanted n) → (counter : ℕ) (r : Row) → used_row h.sessions counter rule wanted r ≡ true
      → UsedRow h counter rule Wanted r
  unfolding used_row text_good session
  row-used f counter r e =
      let a = and_right (leb r.number counter) _ e in
      let b = and_right (text_good rule r) _ a in
      let c : text_good rule r ≡ true = and_left (text_good rule r) _ a in
      let d = and_right (leb r.len longest) _ c in
      record {
        number = leb-true _ _ (and_left (leb r.number counter) _ e);
        len = leb-true r.len longest (and_left (leb r.len longest) _ c);
        text = and_left (rule (row_text r) r.policy) _ d;
        zero = zero-past r.len r.text (and_right (rule (row_text r) r.policy) _ d);
        holding = open-holder h.sessions r.holders (and_left (holders_open h.sessions r.holders) _ b);
        wanted = f (holder_count r) (and_right (holders_open h.sessions r.holders) _ b);
      }

  -- the text's test, from its propositions
  text-good : (counter : ℕ) (r : Row) → UsedRow h counter rule Wanted r → text_good rule r ≡ true
  unfolding text_good
  text-good counter r u =
      and_both (le-leb r.len longest u.len) (and_both u.text (past-zero r.len r.text u.zero))

  used-row : ((n : ℕ) → Wanted n → wanted n ≡ true) → (counter : ℕ) (r : Row) → UsedRow h counter rule Wanted r
      → used_row h.sessions counter rule wanted r ≡ true
  unfolding used_row session
  used-row f counter r u =
      and_both (le-leb r.number counter u.number)
      (and_both (text-good counter r u)
      (and_both (holders-open h.sessions r.holders u.holding) (f (holder_count r) u.wanted)))

  table-good : ((n : ℕ) → Wanted n → wanted n ≡ true) → (t : Table) → GoodTable h rule Wanted t
      → table_good h.sessions rule wanted t ≡ true
  unfolding table_good row_good
  table-good f t g =
      and_both
      (all-every (row_good h.sessions t.counter rule wanted) t.rows
      (all_map (λ r. unused r ≡ false → UsedRow h t.counter rule Wanted r) _
      (λ r u. or-given (unused r) _ (λ n. used-row f t.counter r (u n))) t.rows g.each))
      (pairs-pairwise rows_apart t.rows (pairs-map RowsApart _ rows-apart t.rows g.apart))

  good-table : ((n : ℕ) → wanted n ≡ true → Wanted n) → (t : Table) → table_good h.sessions rule wanted t ≡ true
      → GoodTable h rule Wanted t
  unfolding table_good row_good
  good-table f t e =
      let row_test = row_good h.sessions t.counter rule wanted in
      record {
        each =
            all_map (λ r. row_test r ≡ true) _ (λ r u n. row-used f t.counter r (or_right (unused r) _ u n)) t.rows
            (every-all row_test t.rows (and_left (every row_test t.rows) _ e));
        apart =
            pairs-map (λ r s. rows_apart r s ≡ true) _ apart-rows t.rows
            (pairwise-pairs rows_apart t.rows (and_right (every row_test t.rows) _ e));
      }

-- ---- rule 4
call-good : (h : Hub) (c : HeldCall) → (idle c ≡ false → JoinedCall h c) → call_good h c ≡ true
unfolding call_good
call-good h c f =
    or-given (idle c) _
    (λ n.
    let j = f n in
    rw (
      is-open (session h c.caller).status j.calling,
      is-open (session h c.callee).status j.serving,
      le-leb c.request (session h c.caller).request j.request,
    ) (in-range c.invocation (session h c.callee).invocation j.first j.invocation))

good-call : (h : Hub) (c : HeldCall) → call_good h c ≡ true → idle c ≡ false → JoinedCall h c
unfolding call_good
good-call h c e n =
    let a = or_right (idle c) _ e n in
    let b = and_right (is_open (session h c.caller)) _ a in
    let d = and_right (is_open (session h c.callee)) _ b in
    let r = range-in c.invocation (session h c.callee).invocation (and_right (leb c.request (session h c.caller).request) _ d) in
    record {
      calling = open_is (session h c.caller).status (and_left (is_open (session h c.caller)) _ a);
      serving = open_is (session h c.callee).status (and_left (is_open (session h c.callee)) _ b);
      request = leb-true _ _ (and_left (leb c.request (session h c.caller).request) _ d);
      first = r.0;
      invocation = r.1;
    }

-- the tests of two calls' requests, and of their invocations
abbrev requests_differ : HeldCall → HeldCall → Bool
requests_differ c d = not (eqb c.caller d.caller && eqb c.request d.request)

abbrev invocations_differ : HeldCall → HeldCall → Bool
invocations_differ c d = not (eqb c.callee d.callee && eqb c.invocation d.invocation)

calls-apart : (c d : HeldCall) → CallsApart c d → calls_apart c d ≡ true
unfolding calls_apart
calls-apart c d a =
    or-given (idle c) _
    (λ u. or-given (idle d) _
    (λ v. and_both {a = requests_differ c d} {b = invocations_differ c d}
    (not-both _ _ (λ p q. a.requests u v (eqb-true _ _ p) (eqb-true _ _ q)))
    (not-both _ _ (λ p q. a.invocations u v (eqb-true _ _ p) (eqb-true _ _ q)))))

apart-calls : (c d : HeldCall) → calls_apart c d ≡ true → CallsApart c d
unfolding calls_apart
apart-calls c d e = record {
  requests = λ u v p q.
      both-not (eqb c.caller d.caller) (eqb c.request d.request) (and_left (requests_differ c d) (invocations_differ c d) (differ u v))
      (eq-eqb _ _ p) (eq-eqb _ _ q);
  invocations = λ u v p q.
      both-not (eqb c.callee d.callee) (eqb c.invocation d.invocation)
      (and_right (requests_differ c d) (invocations_differ c d) (differ u v)) (eq-eqb _ _ p) (eq-eqb _ _ q);
}
  where
    differ : idle c ≡ false → idle d ≡ false → (requests_differ c d && invocations_differ c d) ≡ true
    differ u v = or_right (idle d) _ (or_right (idle c) _ e u) v

-- ---- rule 5
counters-low : (s : Session) → (s.request ≤ last_id) × (s.invocation ≤ last_id) → counters_low s ≡ true
unfolding counters_low
counters-low s l = and_both (le-leb s.request last_id l.0) (le-leb s.invocation last_id l.1)

low-counters : (s : Session) → counters_low s ≡ true → (s.request ≤ last_id) × (s.invocation ≤ last_id)
unfolding counters_low
low-counters s e =
    (leb-true _ last_id (and_left (leb s.request last_id) _ e), leb-true _ last_id (and_right (leb s.request last_id) _ e))

-- ---- all five
-- a test that every session passes, from a rule of every slot; and back
every-slot : (h : Hub) (p : Session → Bool) → ((i : ℕ) → p (session h i) ≡ true) → every p h.sessions ≡ true
unfolding session
every-slot h p f = all-every p h.sessions (all-of-at (λ s. p s ≡ true) no_session h.sessions f)

slot-of-every : (h : Hub) (p : Session → Bool) → p no_session ≡ true → every p h.sessions ≡ true → (i : ℕ) → p (session h i) ≡ true
unfolding session
slot-of-every h p z e i = all-at (λ s. p s ≡ true) no_session h.sessions i z (every-all p h.sessions e)

module _ (h : Hub) (l : Lawful h) where
  lawful-rule1 : rule1 h ≡ true
  unfolding rule1
  lawful-rule1 =
      and_both (every-slot h session_zero (λ i. session-zero (session h i) (l.idle_slots i)))
      (and_both (rows-zero h.subscriptions.rows l.free_subscriptions)
      (and_both (rows-zero h.registrations.rows l.free_registrations)
      (all-every call_zero h.calls (all_map (λ c. idle c ≡ true → c ≡ no_call) _ call-zero h.calls l.free_calls))))

  lawful-rule2 : rule2 h ≡ true
  unfolding rule2 session
  lawful-rule2 =
      and_both
      (every-slot h id_in_range (λ i. id-in-range (session h i) (l.ids i)))
      (pairs-pairwise ids_apart h.sessions
      (pairs-of-at (λ s t. ids_apart s t ≡ true) no_session h.sessions
      (λ i j m n. ids-apart (session h i) (session h j) (λ p q e. let same = l.ids_distinct i j p q e in omega arith))))

  lawful-rule3 : rule3 h ≡ true
  unfolding rule3
  lawful-rule3 =
      and_both
      (table-good h valid_topic some_member SomeMember (λ n p. le-leb 1 n p) h.subscriptions l.subscriptions)
      (table-good h valid_procedure one_owner OneOwner (λ n p. eq-eqb n 1 p) h.registrations l.registrations)

  lawful-rule4 : rule4 h ≡ true
  unfolding rule4
  lawful-rule4 =
      and_both
      (all-every (call_good h) h.calls (all_map (λ c. idle c ≡ false → JoinedCall h c) _ (call-good h) h.calls l.joined))
      (pairs-pairwise calls_apart h.calls (pairs-map CallsApart _ calls-apart h.calls l.distinct))

  lawful-rule5 : rule5 h ≡ true
  unfolding rule5
  lawful-rule5 =
      rw (
        every-slot h counters_low (λ i. counters-low (session h i) (l.counters i)),
        le-leb h.subscriptions.counter last_id l.subscription_counter,
        le-leb h.registrations.counter last_id l.registration_counter,
      )

pub lawful-rules : (h : Hub) → Lawful h → rules h ≡ true
unfolding rules
lawful-rules h l = rw (lawful-rule1 h l, lawful-rule2 h l, lawful-rule3 h l, lawful-rule4 h l, lawful-rule5 h l)

-- no two slots have sessions of one ID
ids-distinct : (h : Hub) → pairwise ids_apart h.sessions ≡ true → (i j : ℕ) → OpenAt h i → OpenAt h j
    → (session h i).id ≡ (session h j).id → i ≡ j
unfolding session
ids-distinct h e i j p q same =
    split (eqb i j)
    (eqb-true i j)
    (λ n.
    absurd
    (pairs-at IdsApart no_session (λ s t a o u d. a u o (sym d)) (λ s o u d. closed-open o) h.sessions
    (pairs-map (λ s t. ids_apart s t ≡ true) IdsApart apart-ids h.sessions (pairwise-pairs ids_apart h.sessions e))
    i j (eqb-false i j n) p q same))

pub rules-lawful : (h : Hub) → Sized h → rules h ≡ true → Lawful h
unfolding rules rule1 rule2 rule3 rule4 rule5 session_zero id_in_range counters_low
rules-lawful h s e =
    let subs = h.subscriptions in
    let regs = h.registrations in
    -- the five rules
    let one = and_left (rule1 h) _ e in
    let after_one = and_right (rule1 h) _ e in
    let two = and_left (rule2 h) _ after_one in
    let after_two = and_right (rule2 h) _ after_one in
    let three = and_left (rule3 h) _ after_two in
    let after_three = and_right (rule3 h) _ after_two in
    let four = and_left (rule4 h) _ after_three in
    let five = and_right (rule4 h) _ after_three in
    -- their parts
    let zeros = and_right (every session_zero h.sessions) _ one in
    let zero_regs = and_right (every row_zero subs.rows) _ zeros in
    let counters = and_right (every counters_low h.sessions) _ five in
    record {
      idle_slots = λ i. zero-session (session h i) (slot-of-every h session_zero refl (and_left (every session_zero h.sessions) _ one) i);
      free_subscriptions = zero-rows subs.rows s.members (and_left (every row_zero subs.rows) _ zeros);
      free_registrations = zero-rows regs.rows s.owners (and_left (every row_zero regs.rows) _ zero_regs);
      free_calls =
          all_map (λ c. call_zero c ≡ true) _ zero-call h.calls
          (every-all call_zero h.calls (and_right (every row_zero regs.rows) _ zero_regs));
      ids = λ i. range-of-id (session h i) (slot-of-every h id_in_range refl (and_left (every id_in_range h.sessions) _ two) i);
      ids_distinct = ids-distinct h (and_right (every id_in_range h.sessions) _ two);
      subscriptions =
          good-table h valid_topic some_member SomeMember (λ n p. leb-true 1 n p) subs (and_left (table_good h.sessions valid_topic some_member subs) _ three);
      registrations =
          good-table h valid_procedure one_owner OneOwner (λ n p. eqb-true n 1 p) regs (and_right (table_good h.sessions valid_topic some_member subs) _ three);
      joined =
          all_map (λ c. call_good h c ≡ true) _ (good-call h) h.calls
          (every-all (call_good h) h.calls (and_left (every (call_good h) h.calls) _ four));
      distinct =
          pairs-map (λ c d. calls_apart c d ≡ true) _ apart-calls h.calls
          (pairwise-pairs calls_apart h.calls (and_right (every (call_good h) h.calls) _ four));
      counters = λ i. low-counters (session h i) (slot-of-every h counters_low refl (and_left (every counters_low h.sessions) _ five) i);
      subscription_counter = leb-true _ last_id (and_left (leb subs.counter last_id) _ counters);
      registration_counter = leb-true _ last_id (and_right (leb subs.counter last_id) _ counters);
    }
