-- What the words for a changed state mean, in which the demands say what a step leaves: the part named changes so, and no other part does
-- (PROTOCOL, "What each message does": "What is not named does not change").
use Rattle.std.specs.Prelude.{◌<◌, ◌≡◌}
use Rattle.model.specs.Words.{ℕ, suc, List, length, Session, Table, HeldCall, Hub, Exact, Prefix, Wildcard}
use Rattle.outgoing.specs.Outgoing.{Plain, Names}
use Rattle.model.specs.State.{session, call_at, with_session, with_call, with_subscriptions, with_registrations}
use Rattle.model.specs.Step.{issued, details_for}

pub record Changes (h : Hub) : Type 0 where
  -- the session of slot i
  pub slot : (i : ℕ) (x : Session) → i < length h.sessions → session (with_session h i x) i ≡ x
  pub other_slots : (i j : ℕ) (x : Session) → ¬ (j ≡ i) → session (with_session h i x) j ≡ session h j
  pub slot_alone : (i : ℕ) (x : Session) → let g = with_session h i x in
      (g.subscriptions ≡ h.subscriptions) × (g.registrations ≡ h.registrations) × (g.calls ≡ h.calls)
  -- held call k
  pub call : (k : ℕ) (c : HeldCall) → k < length h.calls → call_at (with_call h k c) k ≡ c
  pub other_calls : (k j : ℕ) (c : HeldCall) → ¬ (j ≡ k) → call_at (with_call h k c) j ≡ call_at h j
  pub call_alone : (k : ℕ) (c : HeldCall) → let g = with_call h k c in
      (g.sessions ≡ h.sessions) × (g.subscriptions ≡ h.subscriptions) × (g.registrations ≡ h.registrations)
  -- a table
  pub subscriptions : (t : Table) → let g = with_subscriptions h t in
      (g.sessions ≡ h.sessions) × (g.subscriptions ≡ t) × (g.registrations ≡ h.registrations) × (g.calls ≡ h.calls)
  pub registrations : (t : Table) → let g = with_registrations h t in
      (g.sessions ≡ h.sessions) × (g.subscriptions ≡ h.subscriptions) × (g.registrations ≡ t) × (g.calls ≡ h.calls)
  -- the callee's invocation counter is advanced by 1
  pub counter : (i : ℕ) → i < length h.sessions → let x = session h i in
      session (issued h i) i ≡ record { status = x.status; id = x.id; request = x.request; invocation = suc x.invocation }
  pub other_counters : (i j : ℕ) → ¬ (j ≡ i) → session (issued h i) j ≡ session h j
  pub counter_alone : (i : ℕ) → let g = issued h i in
      (g.subscriptions ≡ h.subscriptions) × (g.registrations ≡ h.registrations) × (g.calls ≡ h.calls)

-- Details (PROTOCOL, "Sent"): of an exact row none, else the URI published or called
pub record DetailsBy (uri : List ℕ) : Type 0 where
  pub exact : details_for Exact uri ≡ Plain
  pub prefix : details_for Prefix uri ≡ Names uri
  pub wildcard : details_for Wildcard uri ≡ Names uri
