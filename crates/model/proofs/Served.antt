-- What each message of an open session does keeps the state rules. A request is looked at once its number is the session's last:
-- proofs/Keeps.antt leads here. Assumes nothing.
use Rattle.std.specs.Prelude.{Some, None, Option}
use Prim.Native.Nat.{ℕ, ◌≤◌, ◌<◌}
use mathlib.Core.Bool.{Bool, true, false, ◌&&◌}
use mathlib.Core.List.{List}
use mathlib.Core.Path.{◌≡◌}
use borrow.Author.Tests.{ltb-true, not-true}
use lib.Dec.{ltb}
use Rattle.seq.specs.Lists.{first, on_found}
use Rattle.seq.specs.Bytes.{same, Payload}
use Rattle.seq.proofs.Logic.{and_left, cond-case}
use Rattle.seq.proofs.Rules.{all-at}
use Rattle.seq.proofs.Search.{found-passes, missed-all, found-case}
use Rattle.uri.specs.declared.Policy.{Policy}
use Rattle.uri.specs.Uri.{same_policy, valid_topic, valid_procedure, valid_published, valid_called}
use Rattle.uri.proofs.Uses.{short-topic, short-procedure}
use Rattle.pattern.specs.declared.Row.{Row}
use Rattle.pattern.specs.Choice.{no_row, row_text, choice}
use Rattle.conversion.specs.Carried.{carried}
use Rattle.conversion.proofs.Carried.{carried-case}
use Rattle.outgoing.specs.Outgoing.{Answer}
use Rattle.outgoing.specs.Layout.{Mail}
use Rattle.options.specs.Audience.{Audience, any_wrong}
use Rattle.model.specs.declared.Status.{Status}
use Rattle.model.specs.declared.Status.TheVariants.{Closed}
use Rattle.model.specs.declared.Table.{Table}
use Rattle.model.specs.declared.Hub.{Hub}
use Rattle.seq.specs.Numbers.{last_id}
use Rattle.model.specs.State.{slots, session, format_at, unused, owner, is_of, is_held_by, row_at, left, idle, serves}
use Rattle.model.specs.Rules.{OpenAt, SomeMember, OneOwner}
use Rattle.model.specs.Step.{Next, silent, says, ends, violates, has_number, on_place, subscribe_new, subscribe_join, subscribe, register_new, register, unsubscribe, unregister, publishes, publish_error, publish, call_error, routed, route, passed, call, answered, answer, request}
use Rattle.model.proofs.Parts.{RowLaw, Sound, open-inside}
use Rattle.model.proofs.Sessions.{Idle, idle-closed}
use Rattle.model.proofs.Rows.{some-counts, one-counts, free_law}
use Rattle.model.proofs.Tables.{added-table, left-table, joined-table, subscriptions-sound, registrations-sound}
use Rattle.model.proofs.Calls.{freed-sound, Ahead, held-sound}
use Rattle.model.proofs.Ends.{ended-sound}
use Rattle.model.proofs.Owner.{owner-open}
use Rattle.model.proofs.Chosen.{choice-used}

-- what an event leads to keeps the rules
abbrev pub Keeps : Next → Type 0
Keeps x = Sound x.hub

-- ---- a session's end
pub ends-keeps : (h : Hub) → Sound h → (i : ℕ) → i < slots → (status : Status) → Idle status → (own : List Mail) → Keeps (ends h i status own)
unfolding ends
ends-keeps h l i b status q own = ended-sound h l i b status q

pub violates-keeps : (h : Hub) → Sound h → (i : ℕ) → i < slots → Keeps (violates h i)
unfolding violates
violates-keeps h l i b = ends-keeps h l i b Closed idle-closed _

-- ---- SUBSCRIBE and REGISTER
-- a new row is made only under a number that the table has left
place-case : (t : Table) (found : ℕ → Next) (none : Next) → (t.counter < last_id → (k : ℕ) → Keeps (found k)) → Keeps none
    → Keeps (on_place t found none)
unfolding on_place has_number
place-case t found none f n =
    cond-case Keeps (ltb t.counter last_id) (on_found (first unused t.rows) found none) none
    (λ e. found-case Keeps (first unused t.rows) found none (λ k _. f (ltb-true t.counter last_id e) k) (λ _. n))
    (λ _. n)

-- a row that is found by its policy and text is used
is-of-used : (policy : Policy) (s : List ℕ) (r : Row) → is_of policy s r ≡ true → unused r ≡ false
unfolding is_of
is-of-used policy s r e = not-true (unused r) (and_left _ (same_policy r.policy policy && same (row_text r) s) e)

module _ (h : Hub) (l : Sound h) (i : ℕ) (opened : OpenAt h i) where
  inside : i < slots
  inside = open-inside h l i opened

  pub subscribe-keeps : (n : ℕ) (m : Option Policy) (topic : List ℕ) → Keeps (subscribe h i n m topic)
  unfolding subscribe subscribe_join subscribe_new says
  subscribe-keeps n None topic = l
  subscribe-keeps n (Some policy) topic =
      cond-case Keeps (valid_topic topic policy) _ _
      (λ v.
      found-case Keeps (first (is_of policy topic) h.subscriptions.rows) (subscribe_join h i n) (subscribe_new h i n policy topic)
      (λ k e.
      subscriptions-sound h l _
      (joined-table h valid_topic h.subscriptions l.subscriptions k i opened inside
      (is-of-used policy topic _ (found-passes (is_of policy topic) no_row h.subscriptions.rows k e))))
      (λ e.
      place-case h.subscriptions _ _
      (λ c k.
      subscriptions-sound h l _
      (added-table h valid_topic SomeMember h.subscriptions l.subscriptions short-topic some-counts k policy i topic opened inside v c
      (missed-all (is_of policy topic) h.subscriptions.rows e)))
      l))
      (λ _. l)

  pub register-keeps : (n : ℕ) (m : Option Policy) (procedure : List ℕ) → Keeps (register h i n m procedure)
  unfolding register register_new says
  register-keeps n None procedure = l
  register-keeps n (Some policy) procedure =
      cond-case Keeps (valid_procedure procedure policy) _ _
      (λ v.
      found-case Keeps (first (is_of policy procedure) h.registrations.rows) _ (register_new h i n policy procedure)
      (λ k e. l)
      (λ e.
      place-case h.registrations _ _
      (λ c k.
      registrations-sound h l _
      (added-table h valid_procedure OneOwner h.registrations l.registrations short-procedure one-counts k policy i procedure opened inside v c
      (missed-all (is_of policy procedure) h.registrations.rows e)))
      l))
      (λ _. l)

  -- ---- UNSUBSCRIBE and UNREGISTER
  pub unsubscribe-keeps : (n id : ℕ) → Keeps (unsubscribe h i n id)
  unfolding unsubscribe says
  unsubscribe-keeps n id =
      found-case Keeps (first (is_held_by i id) h.subscriptions.rows) _ _
      (λ k e. subscriptions-sound h l _ (left-table h valid_topic SomeMember h.subscriptions l.subscriptions some-counts k i inside))
      (λ e. l)

  pub unregister-keeps : (n id : ℕ) → Keeps (unregister h i n id)
  unfolding unregister says
  unregister-keeps n id =
      found-case Keeps (first (is_held_by i id) h.registrations.rows) _ _
      (λ k e. registrations-sound h l _ (left-table h valid_procedure OneOwner h.registrations l.registrations one-counts k i inside))
      (λ e. l)

  -- ---- PUBLISH
  pub publish-keeps : (n : ℕ) (acknowledge : Bool) (audience : Audience) (topic : List ℕ) (payload : Payload) (publication : ℕ)
      → Keeps (publish h i n acknowledge audience topic payload publication)
  unfolding publish publishes publish_error
  publish-keeps n acknowledge audience topic payload publication =
      cond-case Keeps (any_wrong audience) _ _ (λ _. l) (λ _. cond-case Keeps (valid_published topic) _ _ (λ _. l) (λ _. l))

  -- ---- YIELD and ERROR
  pub answer_keeps : (v : ℕ) (a : Answer) → Keeps (answer h i v a)
  unfolding answer answered says silent
  answer_keeps v a = found-case Keeps (first (serves i v) h.calls) _ _ (λ k e. freed-sound h l k) (λ e. l)

  -- ---- CALL: its request number is the session's last, and the calls it already made have lower ones
  module _ (n : ℕ) (asked : (session h i).request ≡ n) (least : 1 ≤ n) (ahead : Ahead h i n) where
    -- the owner of a used registration takes the call
    route-keeps : (r : Row) → OpenAt h (owner r) → (procedure : List ℕ) (payload : Payload) → Keeps (route h i n r procedure payload)
    unfolding route routed call_error says
    route-keeps r serving procedure payload =
        cond-case Keeps (ltb (session h (owner r)).invocation last_id) _ _
        (λ e.
        found-case Keeps (first idle h.calls) _ _
        (λ k f. held-sound h l i n (owner r) opened serving asked least ahead (ltb-true (session h (owner r)).invocation last_id e) k)
        (λ f. l))
        (λ e. l)

    passed-keeps : (r : Row) → OpenAt h (owner r) → (procedure : List ℕ) (payload : Payload) → Keeps (passed h i n r procedure payload)
    unfolding passed call_error says
    passed-keeps r serving procedure payload =
        carried-case Keeps (carried (format_at h i) (format_at h (owner r)) payload) _ _ (λ p _. route-keeps r serving procedure p) (λ _. l)

    pub call-keeps : (procedure : List ℕ) (payload : Payload) → Keeps (call h i n procedure payload)
    unfolding call call_error says
    call-keeps procedure payload =
        cond-case Keeps (valid_called procedure) _ _
        (λ v.
        found-case Keeps (choice h.registrations.rows procedure) _ _
        (λ k e.
        let t : Table = h.registrations in
        let row = all-at (RowLaw h t.counter valid_procedure OneOwner) no_row t.rows k (free_law h t.counter valid_procedure OneOwner) l.registrations.each in
        let used = row.used (choice-used t.rows procedure k e).1 in
        passed-keeps (row_at t k) (owner-open h t.counter valid_procedure (row_at t k) used) procedure payload)
        (λ e. l))
        (λ _. l)
