-- A slot's change keeps the state rules: a slot without an open session gets a status, a session opens, an open session's numbers grow.
-- Assumes nothing.
use Prim.Native.Nat.{ℕ, suc, ◌≤◌, ◌<◌}
use mathlib.Core.List.{List}
use mathlib.Core.Path.{◌≡◌, refl, sym, ◌∙◌}
use native.Mathlib.Omega.{arith}
use lib.ListN.{length, set, length-set}
use lib.Seq.{get_or-set_same}
use Rattle.seq.proofs.Rules.{at_set}
use Rattle.uri.specs.Uri.{valid_topic, valid_procedure}
use Rattle.model.specs.declared.Status.{Status}
use Rattle.model.specs.declared.Status.TheVariants.{Closed}
use Rattle.model.specs.declared.Session.{Session}
use Rattle.model.specs.declared.Hub.{Hub}
use Rattle.seq.specs.Numbers.{last_id}
use Rattle.model.specs.State.{slots, with_status, no_session, session, IsOpen, phase, attached_in, with_session}
use Rattle.seq.specs.declared.Format.{Format}
use Rattle.model.specs.Rules.{OpenAt, SomeMember, OneOwner}
use Rattle.model.specs.Step.{numbered, issued}
use Rattle.model.proofs.Formats.{phase-attached, closed-open, attached-open}
use Rattle.model.proofs.Parts.{at, SessionLaw, SessionsLaw, Sound, Grown, Grows, table-grows, calls-grow}

-- a status that is not open
abbrev pub Idle : Status → Type 0
Idle k = phase k ≡ IsOpen → ⊥

pub idle-closed : Idle Closed
idle-closed = closed-open

pub idle-attached : (f : Format) → Idle (attached_in f)
idle-attached f e = attached-open (sym (phase-attached f) ∙ e)

-- a slot without a session is all zero but for its status
pub idle-law : (k : Status) → Idle k → SessionLaw (with_status k)
idle-law k q = record { idle = λ _. (refl, refl, refl); id = λ e. absurd (q e); counters = (omega arith, omega arith) }

-- no other open session has this one's ID
abbrev pub Unlike : List Session → ℕ → Session → Type 0
Unlike ss i s = (j : ℕ) → phase (at ss j).status ≡ IsOpen → (at ss j).id ≡ s.id → j ≡ i

-- a slot's row is written: it keeps its own rules, and where it is open its ID is unlike the others'
pub sessions-set : (ss : List Session) (i : ℕ) (s : Session) → i < length ss → SessionsLaw ss → SessionLaw s → (phase s.status ≡ IsOpen → Unlike ss i s)
    → SessionsLaw (set ss i s)
sessions-set ss i s b l k u =
    record {
      size = length-set ss i s ∙ l.size;
      each = at_set (λ j t. SessionLaw t) no_session ss i s b k l.each;
      distinct =
          at_set (λ a t. (c : ℕ) → phase t.status ≡ IsOpen → phase (at (set ss i s) c).status ≡ IsOpen → t.id ≡ (at (set ss i s) c).id → a ≡ c) no_session ss i s b
          (at_set (λ c t. phase s.status ≡ IsOpen → phase t.status ≡ IsOpen → s.id ≡ t.id → i ≡ c) no_session ss i s b
          (λ o p e. refl)
          (λ c o p e. sym (u o c p (sym e))))
          (λ a.
          at_set (λ c t. phase (at ss a).status ≡ IsOpen → phase t.status ≡ IsOpen → (at ss a).id ≡ t.id → a ≡ c) no_session ss i s b
          (λ p o e. u o a p e)
          (l.distinct a));
    }

module _ (h : Hub) (l : Sound h) (i : ℕ) (inside : i < slots) where
  within : i < length h.sessions
  within = let n = l.sessions.size in omega arith

  -- the other slots stay, and an open session in this one grows
  pub grows-set : (s : Session) → (OpenAt h i → Grown (session h i) s) → Grows h (with_session h i s)
  unfolding session with_session
  grows-set s g =
      at_set (λ j t. OpenAt h j → Grown (session h j) t) no_session h.sessions i s within g
      (λ j o. record { opened = o; request = omega arith; invocation = omega arith })

  written : (s : Session) → SessionLaw s → (phase s.status ≡ IsOpen → Unlike h.sessions i s) → (OpenAt h i → Grown (session h i) s)
      → Sound (with_session h i s)
  unfolding with_session
  written s k u g =
      let grows : Grows h (with_session h i s) = grows-set s g in
      record {
        sessions = sessions-set h.sessions i s within l.sessions k u;
        subscriptions = table-grows h (with_session h i s) grows valid_topic SomeMember h.subscriptions l.subscriptions;
        registrations = table-grows h (with_session h i s) grows valid_procedure OneOwner h.registrations l.registrations;
        calls = calls-grow h (with_session h i s) grows h.calls l.calls;
      }

  -- a slot without an open session gets a status
  pub idled : Idle (session h i).status → (k : Status) → Idle k → Sound (with_session h i (with_status k))
  idled q k z = written (with_status k) (idle-law k z) (λ o. absurd (z o)) (λ o. absurd (q o))

  -- a session opens, under an ID that no open session has
  pub opened : Idle (session h i).status → (k : Status) → phase k ≡ IsOpen → (n : ℕ) → 1 ≤ n → n ≤ last_id → ((j : ℕ) → OpenAt h j → (session h j).id ≡ n → ⊥)
      → Sound (with_session h i (record { status = k; id = n; request = 0; invocation = 0 }))
  unfolding session
  opened q k o n a b fresh =
      written (record { status = k; id = n; request = 0; invocation = 0 })
      (record { idle = λ c. absurd (c o); id = λ _. (a, b); counters = (omega arith, omega arith) })
      (λ _ j o e. absurd (fresh j o e))
      (λ o. absurd (q o))

  module _ (is-open : OpenAt h i) where
    -- an open session's numbers grow
    pub advanced : (n v : ℕ) → (session h i).request ≤ n → (session h i).invocation ≤ v → n ≤ last_id → v ≤ last_id
        → Sound (with_session h i (record { status = (session h i).status; id = (session h i).id; request = n; invocation = v }))
    unfolding session
    advanced n v a b c d =
        written (record { status = (session h i).status; id = (session h i).id; request = n; invocation = v })
        (record { idle = λ q. absurd (q is-open); id = (l.sessions.each i).id; counters = (c, d) })
        (λ _ j o e. l.sessions.distinct j i o is-open e)
        (λ o. record { opened = o; request = a; invocation = b })

    -- the request number advances
    pub numbered-sound : (n : ℕ) → (session h i).request ≤ n → n ≤ last_id → Sound (numbered h i n)
    unfolding numbered session
    numbered-sound n a b = advanced n (session h i).invocation a (omega arith) b (l.sessions.each i).counters.1

    pub numbered-open : (n : ℕ) → OpenAt (numbered h i n) i
    unfolding numbered with_session session
    numbered-open n = rw (get_or-set_same h.sessions i _ no_session within) is-open

    pub numbered-request : (n : ℕ) → (session (numbered h i n) i).request ≡ n
    unfolding numbered with_session session
    numbered-request n = rw (get_or-set_same h.sessions i _ no_session within)

    -- an invocation number is issued
    pub issued-sound : (session h i).invocation < last_id → Sound (issued h i)
    unfolding issued session
    issued-sound a = advanced (session h i).request (suc (session h i).invocation) (omega arith) (omega arith) (l.sessions.each i).counters.0 a

    pub issued-grows : Grows h (issued h i)
    unfolding issued
    issued-grows = grows-set _ (λ o. record { opened = o; request = omega arith; invocation = omega arith })

    pub issued-invocation : (session (issued h i) i).invocation ≡ suc (session h i).invocation
    unfolding issued with_session session
    issued-invocation = rw (get_or-set_same h.sessions i _ no_session within)
