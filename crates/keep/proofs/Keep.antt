-- What the bytes of a hub become: those of the hub that the step leads to. Assumes nothing.
--     kept-sessions, kept-call, kept-row   what `keep_sessions`, `keep_call` and `keep_row` store over a hub's bytes
--     ended-store                          what `end` stores over them, where each row's bytes are read as that row (`Reads`)
--     reads_of                             so they are in a hub that its bytes stand for: a lawful one, or that of well-formed bytes
--     ended-formed, ended-kept             `end` on well-formed bytes, before or after their sessions are stored
use Prim.Native.Nat.{ℕ, ◌+◌, ◌*◌, ◌<◌, ◌≤◌}
use mathlib.Core.Bool.{true, false}
use mathlib.Core.List.{List, [], ◌∷◌, ◌++◌, map, append_assoc, append-nil}
use mathlib.Core.Path.{◌≡◌, refl, sym, ap, ◌∙◌}
use native.Mathlib.Decide.{dec_lt}
use native.Mathlib.Omega.{arith}
use borrow.Author.Tests.{eq-eqb, lt-ltb, le-ltb}
use lib.ListN.{length, drop, set, length-append, length-map}
use lib.Seq.{drop_at, drop-drop, set_out}
use Rattle.seq.specs.Lists.{joined, All}
use Rattle.seq.proofs.Logic.{split}
use Rattle.seq.proofs.Rules.{all_map, all_true, all_both, all-image}
use Rattle.uri.specs.Uri.{longest}
use Rattle.pattern.specs.declared.Row.{Row}
use Rattle.model.specs.declared.Status.{Status}
use Rattle.model.specs.declared.Session.{Session}
use Rattle.model.specs.declared.Table.{Table}
use Rattle.model.specs.declared.HeldCall.{HeldCall}
use Rattle.model.specs.declared.Hub.{Hub}
use Rattle.model.specs.State.{slots, row_count, with_status, with_session, holds, left, left_by, with_subscriptions, with_registrations, dropped, with_call, ended}
use Rattle.model.specs.Rules.{SizedRow, Sized, Lawful}
use Rattle.image.specs.declared.Kind.{Kind}
use Rattle.image.specs.declared.Kind.TheVariants.{Members, Owner}
use Rattle.image.specs.Image.{session_size, row_size, call_size, image_size, calls_at, table_at, put, digits, cut, session_bytes, row_of, row_bytes, table_of, table_bytes, call_of, call_bytes, hub_of, load, held, store, table_in, with_sessions, with_table, freed}
use Rattle.image.proofs.Laws.{length_digits, length-session, length-call, length-row}
use Rattle.image.proofs.Parts.{held_of}
use Rattle.image.proofs.RoundTrip.{claims}
use Rattle.keep.specs.Keep.{kept_sessions, kept_call, row_start, kept_row, left_bytes, dropped_bytes, left_table, dropped_calls, ended_bytes}
use Rattle.keep.proofs.Places.{left-text, left-holders}
use Rattle.keep.proofs.Parts.{put-part, Wide, length-joined, put-between, cut-joined, Follows, changed-between}

-- ---- the lengths of the parts
sessions-wide : (xs : List Session) → All (Wide session_bytes session_size) xs
sessions-wide xs = all_true (Wide session_bytes session_size) length-session xs

calls-wide : (cs : List HeldCall) → All (Wide call_bytes call_size) cs
calls-wide cs = all_true (Wide call_bytes call_size) length-call cs

rows-wide : (kind : Kind) (rs : List Row) → All SizedRow rs → All (Wide (row_bytes kind) row_size) rs
rows-wide kind rs z = all_map SizedRow (Wide (row_bytes kind) row_size) (λ r s. length-row kind r s.text) rs z

length-sessions : (xs : List Session) → length xs ≡ slots → length (joined session_bytes xs) ≡ 200
length-sessions xs e = length-joined session_bytes session_size xs (sessions-wide xs) ∙ rw e

length-calls : (cs : List HeldCall) → length cs ≡ row_count → length (joined call_bytes cs) ≡ 576
length-calls cs e = length-joined call_bytes call_size cs (calls-wide cs) ∙ rw e

length-table : (kind : Kind) (t : Table) → length t.rows ≡ row_count → All SizedRow t.rows → length (table_bytes kind t) ≡ 4456
unfolding table_bytes
length-table kind t e z =
    let a = length_digits 8 t.counter in
    let b : length (joined (row_bytes kind) t.rows) ≡ 4448 = length-joined (row_bytes kind) row_size t.rows (rows-wide kind t.rows z) ∙ rw e in
    length-append (digits 8 t.counter) (joined (row_bytes kind) t.rows) ∙ omega arith

-- ---- a hub's bytes, seen from each of its parts
module _ (h : Hub) where
  abbrev ss : List ℕ
  ss = joined session_bytes h.sessions

  abbrev ms : List ℕ
  ms = table_bytes Members h.subscriptions

  abbrev os : List ℕ
  os = table_bytes Owner h.registrations

  abbrev cs : List ℕ
  cs = joined call_bytes h.calls

  -- what stands before a table's counter, before its rows, and after them
  abbrev front : Kind → List ℕ
  front Members = ss
  front Owner = ss ++ ms

  abbrev before : Kind → List ℕ
  before kind = front kind ++ digits 8 (table_in kind h).counter

  abbrev after : Kind → List ℕ
  after Members = os ++ cs
  after Owner = cs

  at-counter : (kind : Kind) → store h ≡ front kind ++ (digits 8 (table_in kind h).counter ++ (joined (row_bytes kind) (table_in kind h).rows ++ after kind))
  unfolding store table_bytes
  at-counter Members = simp append_assoc
  at-counter Owner = simp append_assoc

  at_rows : (kind : Kind) → store h ≡ before kind ++ (joined (row_bytes kind) (table_in kind h).rows ++ after kind)
  at_rows kind =
      at-counter kind
      ∙ sym (append_assoc (front kind) (digits 8 (table_in kind h).counter) (joined (row_bytes kind) (table_in kind h).rows ++ after kind))

  at-calls : store h ≡ (ss ++ (ms ++ os)) ++ (cs ++ [])
  unfolding store
  at-calls = rw (append-nil cs) (simp append_assoc)

module _ (h : Hub) (z : Sized h) where
  sized_rows : (kind : Kind) → All SizedRow (table_in kind h).rows
  sized_rows Members = z.members
  sized_rows Owner = z.owners

  row-count : (kind : Kind) → length (table_in kind h).rows ≡ row_count
  row-count Members = z.subscriptions
  row-count Owner = z.registrations

  length_front : (kind : Kind) → length (front h kind) ≡ table_at kind
  length_front Members = length-sessions h.sessions z.sessions
  length_front Owner =
      let a = length-sessions h.sessions z.sessions in
      let b = length-table Members h.subscriptions z.subscriptions z.members in
      length-append (ss h) (ms h) ∙ omega arith

  length_before : (kind : Kind) → length (before h kind) ≡ table_at kind + 8
  length_before kind =
      let a = length_front kind in
      let b = length_digits 8 (table_in kind h).counter in
      length-append (front h kind) (digits 8 (table_in kind h).counter) ∙ omega arith

  length-tables : length (ss h ++ (ms h ++ os h)) ≡ calls_at
  length-tables =
      let a = length_front Owner in
      let b = length-table Owner h.registrations z.registrations z.owners in
      ap length (sym (append_assoc (ss h) (ms h) (os h))) ∙ (length-append (ss h ++ ms h) (os h) ∙ omega arith)

  pub length-store : length (store h) ≡ image_size
  length-store =
      let a = length-tables in
      let b = length-calls h.calls z.calls in
      ap length (at-calls h ∙ ap (λ l. (ss h ++ (ms h ++ os h)) ++ l) (append-nil (cs h)))
      ∙ (length-append (ss h ++ (ms h ++ os h)) (cs h) ∙ omega arith)

-- ---- what a step changes
sessions-of : (s : List ℕ) (xs : List Session) → length s ≡ image_size → kept_sessions s xs ≡ put s 0 (joined session_bytes xs)
unfolding kept_sessions
sessions-of s xs e = rw (eq-eqb _ _ e)

call-of : (s : List ℕ) (k : ℕ) (c : HeldCall) → length s ≡ image_size → k < row_count → kept_call s k c ≡ put s (calls_at + k * call_size) (call_bytes c)
unfolding kept_call
call-of s k c e l = rw (eq-eqb _ _ e, lt-ltb _ _ l)

call-past : (s : List ℕ) (k : ℕ) (c : HeldCall) → length s ≡ image_size → row_count ≤ k → kept_call s k c ≡ s
unfolding kept_call
call-past s k c e l = rw (eq-eqb _ _ e, le-ltb _ _ l)

row-of : (s : List ℕ) (kind : Kind) (k counter : ℕ) (r : Row) → length s ≡ image_size → k < row_count
    → kept_row s kind k counter r ≡ put (put s (table_at kind) (digits 8 counter)) (row_start kind k) (row_bytes kind r)
unfolding kept_row
row-of s kind k counter r e l = rw (eq-eqb _ _ e, lt-ltb _ _ l)

row-past : (s : List ℕ) (kind : Kind) (k counter : ℕ) (r : Row) → length s ≡ image_size → row_count ≤ k
    → kept_row s kind k counter r ≡ put s (table_at kind) (digits 8 counter)
unfolding kept_row
row-past s kind k counter r e l = rw (eq-eqb _ _ e, le-ltb _ _ l)

-- the table with another counter and rows, in the bytes
table-stored : (kind : Kind) (h : Hub) (counter : ℕ) (rs : List Row)
    → front h kind ++ (digits 8 counter ++ (joined (row_bytes kind) rs ++ after h kind)) ≡ store (with_table kind h (record { counter = counter; rows = rs }))
unfolding with_subscriptions with_registrations
table-stored Members h counter rs = sym (at-counter (with_table Members h (record { counter = counter; rows = rs })) Members)
table-stored Owner h counter rs = sym (at-counter (with_table Owner h (record { counter = counter; rows = rs })) Owner)

module _ (h : Hub) (z : Sized h) where
  pub kept-sessions : (xs : List Session) → length xs ≡ slots → kept_sessions (store h) xs ≡ store (with_sessions h xs)
  unfolding store
  kept-sessions xs e =
      sessions-of (store h) xs (length-store h z)
      ∙ put-part [] (ss h) (joined session_bytes xs) (ms h ++ (os h ++ cs h)) 0 refl
      (length-sessions xs e ∙ sym (length-sessions h.sessions z.sessions))

  -- beyond the last, neither the bytes nor the hub change
  pub kept-call : (k : ℕ) (c : HeldCall) → kept_call (store h) k c ≡ store (with_call h k c)
  unfolding with_call
  kept-call k c = elim (dec_lt k row_count) [
    | yes l ↦ (
        call-of (store h) k c (length-store h z) l
        ∙ (ap (λ s. put s (calls_at + k * call_size) (call_bytes c)) (at-calls h)
        ∙ (put-between call_bytes call_size (ss h ++ (ms h ++ os h)) [] h.calls k c (calls_at + k * call_size) calls_at (length-tables h z) refl
        (calls-wide h.calls) (length-call c) (let e = z.calls in omega arith)
        ∙ sym (at-calls (with_call h k c)))))
    | no l ↦ (
        call-past (store h) k c (length-store h z) (omega arith)
        ∙ ap (λ l. store (record { sessions = h.sessions; subscriptions = h.subscriptions; registrations = h.registrations; calls = l }))
        (sym (set_out h.calls k c (let e = z.calls in omega arith))))
  ]

  module _ (kind : Kind) (k counter : ℕ) (r : Row) where
    -- the counter's bytes put
    counter-put : put (store h) (table_at kind) (digits 8 counter)
        ≡ front h kind ++ (digits 8 counter ++ (joined (row_bytes kind) (table_in kind h).rows ++ after h kind))
    counter-put =
        ap (λ s. put s (table_at kind) (digits 8 counter)) (at-counter h kind)
        ∙ put-part (front h kind) (digits 8 (table_in kind h).counter) (digits 8 counter) (joined (row_bytes kind) (table_in kind h).rows ++ after h kind)
        (table_at kind) (length_front h z kind) (length_digits 8 counter ∙ sym (length_digits 8 (table_in kind h).counter))

    row_inside : length r.text ≡ longest → k < row_count
        → kept_row (store h) kind k counter r ≡ store (with_table kind h (record { counter = counter; rows = set (table_in kind h).rows k r }))
    row_inside t l =
        let rs = (table_in kind h).rows in
        let d = digits 8 counter in
        let n = length_front h z kind in
        let m = length_digits 8 counter in
        let f : length (front h kind ++ d) ≡ table_at kind + 8 = length-append (front h kind) d ∙ omega arith in
        row-of (store h) kind k counter r (length-store h z) l
        ∙ (ap (λ s. put s (row_start kind k) (row_bytes kind r)) (counter-put ∙ sym (append_assoc (front h kind) d (joined (row_bytes kind) rs ++ after h kind)))
        ∙ (put-between (row_bytes kind) row_size (front h kind ++ d) (after h kind) rs k r (row_start kind k) (table_at kind + 8) f refl
        (rows-wide kind rs (sized_rows h z kind)) (length-row kind r t) (let e = row-count h z kind in omega arith)
        ∙ (append_assoc (front h kind) d (joined (row_bytes kind) (set rs k r) ++ after h kind) ∙ table-stored kind h counter (set rs k r))))

    -- beyond the last row, only the counter changes, of the bytes and of the hub
    row-outside : row_count ≤ k
        → kept_row (store h) kind k counter r ≡ store (with_table kind h (record { counter = counter; rows = set (table_in kind h).rows k r }))
    row-outside l =
        let rs = (table_in kind h).rows in
        row-past (store h) kind k counter r (length-store h z) l
        ∙ (counter-put
        ∙ (table-stored kind h counter rs
        ∙ ap (λ l. store (with_table kind h (record { counter = counter; rows = l }))) (sym (set_out rs k r (let e = row-count h z kind in omega arith)))))

    pub kept-row : length r.text ≡ longest
        → kept_row (store h) kind k counter r ≡ store (with_table kind h (record { counter = counter; rows = set (table_in kind h).rows k r }))
    kept-row t = elim (dec_lt k row_count) [
      | yes l ↦ row_inside t l
      | no l ↦ row-outside (omega arith)
    ]

-- ---- a session's end
-- each row's and held call's bytes are read as that row and call
pub record Reads (h : Hub) : Type 0 where
  pub members : All (λ r. row_of Members (row_bytes Members r) ≡ r) h.subscriptions.rows
  pub owners : All (λ r. row_of Owner (row_bytes Owner r) ≡ r) h.registrations.rows
  pub calls : All (λ c. call_of (call_bytes c) ≡ c) h.calls

all_back : {A : Type 0} (f : List ℕ → A) (g : A → List ℕ) (xs : List A) → map f (map g xs) ≡ xs → All (λ x. f (g x) ≡ x) xs
all_back f g [] e = tt
all_back f g (x ∷ xs) e = (let a : f (g x) ≡ x = cc in a, all_back f g xs (let b : map f (map g xs) ≡ xs = cc in b))

module _ (h : Hub) (z : Sized h) (e : held (store h) ≡ h) where
  hub-back : hub_of (store h) ≡ h
  hub-back = sym (held_of (store h) (length-store h z)) ∙ e

  rows-read : (kind : Kind) → map (row_of kind) (map (row_bytes kind) (table_in kind h).rows)
      ≡ map (row_of kind) (cut row_size row_count (drop 8 (drop (table_at kind) (store h))))
  rows-read kind =
      let rs = (table_in kind h).rows in
      let d : drop 8 (drop (table_at kind) (store h)) ≡ joined (row_bytes kind) rs ++ after h kind =
      drop-drop 8 (table_at kind) (store h)
      ∙ (ap (drop (table_at kind + 8)) (at_rows h kind)
      ∙ drop_at (before h kind) (joined (row_bytes kind) rs ++ after h kind) (table_at kind + 8) (length_before h z kind)) in
      rw (d, ← row-count h z kind, cut-joined (row_bytes kind) row_size rs (after h kind) (rows-wide kind rs (sized_rows h z kind)))

  calls-read : map call_of (map call_bytes h.calls) ≡ map call_of (cut call_size row_count (drop calls_at (store h)))
  calls-read =
      let d : drop calls_at (store h) ≡ cs h ++ [] =
      ap (drop calls_at) (at-calls h) ∙ drop_at (ss h ++ (ms h ++ os h)) (cs h ++ []) calls_at (length-tables h z) in
      rw (d, ← z.calls, cut-joined call_bytes call_size h.calls [] (calls-wide h.calls))

  pub reads_of : Reads h
  unfolding hub_of table_of
  reads_of =
      record {
        members = all_back (row_of Members) (row_bytes Members) h.subscriptions.rows (rows-read Members ∙ ap (λ x. x.subscriptions.rows) hub-back);
        owners = all_back (row_of Owner) (row_bytes Owner) h.registrations.rows (rows-read Owner ∙ ap (λ x. x.registrations.rows) hub-back);
        calls = all_back call_of call_bytes h.calls (calls-read ∙ ap (λ x. x.calls) hub-back);
      }

-- a row's and a held call's bytes without the slot
left-stays : (slot : ℕ) (r : Row) → holds slot r ≡ false → left slot r ≡ r
unfolding left
left-stays slot r t = rw t

left-bytes : (kind : Kind) (slot : ℕ) (r : Row) → row_of kind (row_bytes kind r) ≡ r → left_bytes kind slot (row_bytes kind r) ≡ row_bytes kind (left slot r)
unfolding left_bytes
left-bytes kind slot r e =
    split (holds slot r)
    (λ t. rw (e, t))
    (λ t. rw (e, t) (ap (row_bytes kind) (sym (left-stays slot r t))))

left-follows : (kind : Kind) (slot : ℕ) (r : Row) → SizedRow r → row_of kind (row_bytes kind r) ≡ r
    → Follows (left_bytes kind slot) (row_bytes kind) (left slot) row_size r
left-follows kind slot r s e =
    record {
      wide = length-row kind r s.text;
      next = length-row kind (left slot r) (left-text slot r s.text);
      same = left-bytes kind slot r e;
    }

drop-follows : (slot : ℕ) (c : HeldCall) → call_of (call_bytes c) ≡ c → Follows (dropped_bytes slot) call_bytes (dropped slot) call_size c
unfolding dropped_bytes
drop-follows slot c e = record { wide = length-call c; next = length-call (dropped slot c); same = rw e }

left-sized : (slot : ℕ) (rs : List Row) → All SizedRow rs → All SizedRow (map (left slot) rs)
left-sized slot rs s =
    all-image SizedRow SizedRow (left slot)
    (λ r t. record { holders = left-holders slot r t.holders; text = left-text slot r t.text }) rs s

-- a table without the slot
module _ (kind : Kind) (slot : ℕ) (h : Hub) (z : Sized h) (e : All (λ r. row_of kind (row_bytes kind r) ≡ r) (table_in kind h).rows) where
  left-stored : left_table kind slot (store h) ≡ store (with_table kind h (left_by slot (table_in kind h)))
  unfolding left_by
  left-stored =
      let rs = (table_in kind h).rows in
      let d = digits 8 (table_in kind h).counter in
      ap (left_table kind slot) (at_rows h kind)
      ∙ (changed-between (left_bytes kind slot) (row_bytes kind) (left slot) row_size row_count (table_at kind + 8) (before h kind) (after h kind) rs
      (length_before h z kind) (row-count h z kind)
      (all_both SizedRow (λ r. row_of kind (row_bytes kind r) ≡ r) (Follows (left_bytes kind slot) (row_bytes kind) (left slot) row_size)
      (left-follows kind slot) rs (sized_rows h z kind) e)
      ∙ (append_assoc (front h kind) d (joined (row_bytes kind) (map (left slot) rs) ++ after h kind)
      ∙ table-stored kind h (table_in kind h).counter (map (left slot) rs)))

-- the held calls without the slot
module _ (slot : ℕ) (h : Hub) (z : Sized h) (e : All (λ c. call_of (call_bytes c) ≡ c) h.calls) where
  abbrev fewer : Hub
  fewer = record { sessions = h.sessions; subscriptions = h.subscriptions; registrations = h.registrations; calls = map (dropped slot) h.calls }

  calls-stored : dropped_calls slot (store h) ≡ store fewer
  calls-stored =
      ap (dropped_calls slot) (at-calls h)
      ∙ (changed-between (dropped_bytes slot) call_bytes (dropped slot) call_size row_count calls_at (ss h ++ (ms h ++ os h)) [] h.calls
      (length-tables h z) z.calls
      (all_map (λ c. call_of (call_bytes c) ≡ c) (Follows (dropped_bytes slot) call_bytes (dropped slot) call_size) (drop-follows slot) h.calls e)
      ∙ sym (at-calls fewer))

-- sizes
pub sized-sessions : (h : Hub) → Sized h → (xs : List Session) → length xs ≡ slots → Sized (with_sessions h xs)
sized-sessions h z xs e =
    record {
      sessions = e;
      subscriptions = z.subscriptions;
      registrations = z.registrations;
      calls = z.calls;
      members = z.members;
      owners = z.owners;
    }

module _ (slot : ℕ) (h : Hub) (z : Sized h) where
  abbrev h₁ : Hub
  h₁ = with_table Members h (left_by slot h.subscriptions)

  abbrev h₂ : Hub
  h₂ = with_table Owner h₁ (left_by slot h.registrations)

  sized₁ : Sized h₁
  unfolding left_by with_subscriptions
  sized₁ =
      record {
        sessions = z.sessions;
        subscriptions = length-map h.subscriptions.rows (left slot) ∙ z.subscriptions;
        registrations = z.registrations;
        calls = z.calls;
        members = left-sized slot h.subscriptions.rows z.members;
        owners = z.owners;
      }

  sized₂ : Sized h₂
  unfolding left_by with_subscriptions with_registrations
  sized₂ =
      record {
        sessions = z.sessions;
        subscriptions = length-map h.subscriptions.rows (left slot) ∙ z.subscriptions;
        registrations = length-map h.registrations.rows (left slot) ∙ z.registrations;
        calls = z.calls;
        members = left-sized slot h.subscriptions.rows z.members;
        owners = left-sized slot h.registrations.rows z.owners;
      }

  pub sized-ended : Sized (freed slot h)
  unfolding left_by
  sized-ended =
      record {
        sessions = z.sessions;
        subscriptions = length-map h.subscriptions.rows (left slot) ∙ z.subscriptions;
        registrations = length-map h.registrations.rows (left slot) ∙ z.registrations;
        calls = length-map h.calls (dropped slot) ∙ z.calls;
        members = left-sized slot h.subscriptions.rows z.members;
        owners = left-sized slot h.registrations.rows z.owners;
      }

  module _ (e : Reads h) where
    bytes-ended : dropped_calls slot (left_table Owner slot (left_table Members slot (store h))) ≡ store (freed slot h)
    unfolding with_subscriptions with_registrations
    bytes-ended =
        ap (λ s. dropped_calls slot (left_table Owner slot s)) (left-stored Members slot h z e.members)
        ∙ (ap (dropped_calls slot) (left-stored Owner slot h₁ sized₁ e.owners)
        ∙ calls-stored slot h₂ sized₂ e.calls)

    pub ended-store : ended_bytes slot (store h) ≡ store (freed slot h)
    unfolding ended_bytes
    ended-store = rw (eq-eqb _ _ (length-store h z)) bytes-ended

-- ---- well-formed bytes
module _ (slot : ℕ) (s : List ℕ) (b : All (λ x. x < 256) s) (ok : (load s).ok ≡ true) where
  same_bytes : store (held s) ≡ s
  same_bytes = claims.loaded s b ok

  pub reads-formed : Reads (held s)
  reads-formed = reads_of (held s) (claims.sized s) (ap held same_bytes)

  pub ended-formed : ended_bytes slot s ≡ store (freed slot (held s))
  ended-formed = ap (ended_bytes slot) (sym same_bytes) ∙ ended-store slot (held s) (claims.sized s) reads-formed

  -- the sessions stored first
  pub ended-kept : (xs : List Session) → length xs ≡ slots
      → ended_bytes slot (kept_sessions s xs) ≡ store (freed slot (with_sessions (held s) xs))
  ended-kept xs e =
      ap (λ t. ended_bytes slot (kept_sessions t xs)) (sym same_bytes)
      ∙ (ap (ended_bytes slot) (kept-sessions (held s) (claims.sized s) xs e)
      ∙ ended-store slot (with_sessions (held s) xs) (sized-sessions (held s) (claims.sized s) xs e)
      (record { members = reads-formed.members; owners = reads-formed.owners; calls = reads-formed.calls }))

-- a lawful hub's bytes are read as that hub
pub reads-lawful : (h : Hub) → Sized h → Lawful h → Reads h
reads-lawful h z w = reads_of h z (ap (λ l. l.hub) (claims.stored h z w))

-- a session's end is that of its tables, and a status for its slot
pub ended_is : (h : Hub) (slot : ℕ) (status : Status) → ended h slot status ≡ with_session (freed slot h) slot (with_status status)
unfolding ended with_session
ended_is h slot status = refl
