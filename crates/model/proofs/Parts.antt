-- The state rules, part by part: `Sound h` says of the slots, the two tables and the held calls what `Lawful h` and `Sized h` say of the
-- whole (`sound-of`, `of-sound`). Sessions that stay open, with numbers that only grow, carry the rules of rows and calls from one state
-- to the next. Assumes nothing.
use Prim.Native.Nat.{ℕ, ◌≤◌, ◌<◌}
use mathlib.Core.Bool.{true, false}
use mathlib.Core.List.{List, [], ◌∷◌}
use mathlib.Core.Path.{◌≡◌}
use native.Mathlib.Decide.{dec_lt}
use native.Mathlib.Omega.{arith}
use lib.ListN.{length, get_or, get_or-eq_default}
use Rattle.seq.specs.Lists.{All, Pairs}
use Rattle.seq.proofs.Rules.{all_map, all_both}
use Rattle.uri.specs.Uri.{valid_topic, valid_procedure, TextRule}
use Rattle.pattern.specs.declared.Row.{Row}
use Rattle.pattern.specs.Choice.{no_row}
use Rattle.model.specs.declared.Session.{Session}
use Rattle.model.specs.declared.Table.{Table}
use Rattle.model.specs.declared.HeldCall.{HeldCall}
use Rattle.model.specs.declared.Hub.{Hub}
use Rattle.seq.specs.Numbers.{last_id}
use Rattle.model.specs.State.{slots, row_count, no_session, no_call, session, IsOpen, phase, unused, idle}
use Rattle.model.specs.Rules.{OpenAt, UsedRow, RowsApart, GoodTable, JoinedCall, CallsApart, SomeMember, OneOwner, SizedRow, Sized, Lawful}

-- ---- slots
abbrev pub at : List Session → ℕ → Session
at ss i = get_or ss i no_session

pub record SessionLaw (s : Session) : Type 0 where
  pub idle : (phase s.status ≡ IsOpen → ⊥) → (s.id ≡ 0) × (s.request ≡ 0) × (s.invocation ≡ 0)
  pub id : phase s.status ≡ IsOpen → (1 ≤ s.id) × (s.id ≤ last_id)
  pub counters : (s.request ≤ last_id) × (s.invocation ≤ last_id)

pub record SessionsLaw (ss : List Session) : Type 0 where
  pub size : length ss ≡ slots
  pub each : (i : ℕ) → SessionLaw (at ss i)
  pub distinct : (i j : ℕ) → phase (at ss i).status ≡ IsOpen → phase (at ss j).status ≡ IsOpen → (at ss i).id ≡ (at ss j).id → i ≡ j

-- ---- subscription and registration rows
pub record RowLaw (h : Hub) (counter : ℕ) (rule : TextRule) (Wanted : ℕ → Type 0) (r : Row) : Type 0 where
  pub used : unused r ≡ false → UsedRow h counter rule Wanted r
  pub free : unused r ≡ true → r ≡ no_row
  pub sized : SizedRow r

pub record TableLaw (h : Hub) (rule : TextRule) (Wanted : ℕ → Type 0) (t : Table) : Type 0 where
  pub size : length t.rows ≡ row_count
  pub each : All (RowLaw h t.counter rule Wanted) t.rows
  pub apart : Pairs RowsApart t.rows
  pub counter : t.counter ≤ last_id

-- ---- held calls
pub record CallLaw (h : Hub) (c : HeldCall) : Type 0 where
  pub used : idle c ≡ false → JoinedCall h c
  pub free : idle c ≡ true → c ≡ no_call

pub record CallsLaw (h : Hub) (cs : List HeldCall) : Type 0 where
  pub size : length cs ≡ row_count
  pub each : All (CallLaw h) cs
  pub apart : Pairs CallsApart cs

-- ---- the state
pub record Sound (h : Hub) : Type 0 where
  pub sessions : SessionsLaw h.sessions
  pub subscriptions : TableLaw h valid_topic SomeMember h.subscriptions
  pub registrations : TableLaw h valid_procedure OneOwner h.registrations
  pub calls : CallsLaw h h.calls

-- a table's rules, gathered by row, and given out again
gather-rows : (h : Hub) (rule : TextRule) (Wanted : ℕ → Type 0) (counter : ℕ) (rs : List Row)
    → All (λ r. unused r ≡ false → UsedRow h counter rule Wanted r) rs → All (λ r. unused r ≡ true → r ≡ no_row) rs → All SizedRow rs
    → All (RowLaw h counter rule Wanted) rs
gather-rows h rule Wanted counter [] u f s = tt
gather-rows h rule Wanted counter (r ∷ rs) u f s =
    (record { used = u.0; free = f.0; sized = s.0 }, gather-rows h rule Wanted counter rs u.1 f.1 s.1)

gather : (h : Hub) (rule : TextRule) (Wanted : ℕ → Type 0) (t : Table) → GoodTable h rule Wanted t
    → All (λ r. unused r ≡ true → r ≡ no_row) t.rows → All SizedRow t.rows → length t.rows ≡ row_count → t.counter ≤ last_id
    → TableLaw h rule Wanted t
gather h rule Wanted t g f s n c =
    record { size = n; each = gather-rows h rule Wanted t.counter t.rows g.each f s; apart = g.apart; counter = c }

module _ (h : Hub) (rule : TextRule) (Wanted : ℕ → Type 0) (t : Table) (l : TableLaw h rule Wanted t) where
  good-table : GoodTable h rule Wanted t
  good-table =
      record {
        each = all_map (RowLaw h t.counter rule Wanted) _ (λ r k. k.used) t.rows l.each;
        apart = l.apart;
      }

  free-rows : All (λ r. unused r ≡ true → r ≡ no_row) t.rows
  free-rows = all_map (RowLaw h t.counter rule Wanted) _ (λ r k. k.free) t.rows l.each

  sized_rows : All SizedRow t.rows
  sized_rows = all_map (RowLaw h t.counter rule Wanted) _ (λ r k. k.sized) t.rows l.each

pub sound-of : (h : Hub) → Lawful h → Sized h → Sound h
unfolding session
sound-of h l s =
    record {
      sessions =
          record {
            size = s.sessions;
            each = λ i. record { idle = l.idle_slots i; id = l.ids i; counters = l.counters i };
            distinct = l.ids_distinct;
          };
      subscriptions =
          gather h valid_topic SomeMember h.subscriptions l.subscriptions l.free_subscriptions s.members s.subscriptions
          l.subscription_counter;
      registrations =
          gather h valid_procedure OneOwner h.registrations l.registrations l.free_registrations s.owners s.registrations
          l.registration_counter;
      calls =
          record {
            size = s.calls;
            each = all_both _ _ (CallLaw h) (λ c u f. record { used = u; free = f }) h.calls l.joined l.free_calls;
            apart = l.distinct;
          };
    }

pub of-sound : (h : Hub) → Sound h → Lawful h × Sized h
unfolding session
of-sound h l = (
  record {
    idle_slots = λ i. (l.sessions.each i).idle;
    free_subscriptions = free-rows h valid_topic SomeMember h.subscriptions l.subscriptions;
    free_registrations = free-rows h valid_procedure OneOwner h.registrations l.registrations;
    free_calls = all_map (CallLaw h) _ (λ c k. k.free) h.calls l.calls.each;
    ids = λ i. (l.sessions.each i).id;
    ids_distinct = l.sessions.distinct;
    subscriptions = good-table h valid_topic SomeMember h.subscriptions l.subscriptions;
    registrations = good-table h valid_procedure OneOwner h.registrations l.registrations;
    joined = all_map (CallLaw h) _ (λ c k. k.used) h.calls l.calls.each;
    distinct = l.calls.apart;
    counters = λ i. (l.sessions.each i).counters;
    subscription_counter = l.subscriptions.counter;
    registration_counter = l.registrations.counter;
  },
  record {
    sessions = l.sessions.size;
    subscriptions = l.subscriptions.size;
    registrations = l.registrations.size;
    calls = l.calls.size;
    members = sized_rows h valid_topic SomeMember h.subscriptions l.subscriptions;
    owners = sized_rows h valid_procedure OneOwner h.registrations l.registrations;
  },
)

-- an open session's slot is one of the slots
pub open-inside : (h : Hub) → Sound h → (i : ℕ) → OpenAt h i → i < slots
unfolding session
open-inside h l i o =
    let n = l.sessions.size in
    elim (dec_lt i slots) [
      | yes p ↦ p
      | no p ↦
          let q : at h.sessions i ≡ no_session = get_or-eq_default h.sessions no_session {n = i} (omega arith) in
          let z : ◌≡◌ {A = ℕ} 0 1 = cc in
          absurd (omega arith)
    ]

-- ---- from one state to the next
-- open sessions stay open, and their numbers only grow
pub record Grown (s t : Session) : Type 0 where
  pub opened : phase t.status ≡ IsOpen
  pub request : s.request ≤ t.request
  pub invocation : s.invocation ≤ t.invocation

abbrev pub Grows : Hub → Hub → Type 0
Grows h g = (j : ℕ) → OpenAt h j → Grown (session h j) (session g j)

-- the same sessions
pub grows_same : (h g : Hub) → g.sessions ≡ h.sessions → Grows h g
unfolding session
grows_same h g e j o = rw e (record { opened = o; request = omega arith; invocation = omega arith })

module _ (h g : Hub) (grows : Grows h g) where
  pub used_grows : (counter : ℕ) (rule : TextRule) (Wanted : ℕ → Type 0) (r : Row) → UsedRow h counter rule Wanted r
      → UsedRow g counter rule Wanted r
  used_grows counter rule Wanted r u =
      record {
        number = u.number;
        len = u.len;
        text = u.text;
        zero = u.zero;
        holding = λ i e. (grows i (u.holding i e)).opened;
        wanted = u.wanted;
      }

  pub table-grows : (rule : TextRule) (Wanted : ℕ → Type 0) (t : Table) → TableLaw h rule Wanted t → TableLaw g rule Wanted t
  table-grows rule Wanted t l =
      record {
        size = l.size;
        each =
            all_map (RowLaw h t.counter rule Wanted) (RowLaw g t.counter rule Wanted)
            (λ r k. record { used = λ u. used_grows t.counter rule Wanted r (k.used u); free = k.free; sized = k.sized })
            t.rows l.each;
        apart = l.apart;
        counter = l.counter;
      }

  pub joined-grows : (c : HeldCall) → JoinedCall h c → JoinedCall g c
  joined-grows c k =
      let a = grows c.caller k.calling in
      let b = grows c.callee k.serving in
      record { calling = a.opened; serving = b.opened; request = omega arith; first = k.first; invocation = omega arith }

  pub calls-grow : (cs : List HeldCall) → CallsLaw h cs → CallsLaw g cs
  calls-grow cs l =
      record {
        size = l.size;
        each = all_map (CallLaw h) (CallLaw g) (λ c k. record { used = λ u. joined-grows c (k.used u); free = k.free }) cs l.each;
        apart = l.apart;
      }
