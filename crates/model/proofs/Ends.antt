-- A session's end keeps the state rules: its rows, memberships and held calls are freed, and its slot has no session. Assumes nothing.
use Prim.Native.Nat.{ℕ, ◌<◌}
use mathlib.Core.Bool.{true, false, not}
use mathlib.Core.Path.{◌≡◌, ◌∙◌}
use native.Mathlib.Omega.{arith}
use borrow.Author.Tests.{eqb-false}
use lib.Dec.{eqb}
use lib.ListN.{length-map}
use lib.Seq.{get_or-set_other}
use Rattle.seq.proofs.Logic.{split, or-false}
use Rattle.seq.proofs.Rules.{all-image, pairs-image}
use Rattle.uri.specs.Uri.{valid_topic, valid_procedure}
use Rattle.model.specs.declared.Status.{Status}
use Rattle.model.specs.declared.HeldCall.{HeldCall}
use Rattle.model.specs.declared.Hub.{Hub}
use Rattle.model.specs.State.{slots, with_status, no_session, no_call, session, idle, concerns, dropped, ended}
use Rattle.model.specs.Rules.{OpenAt, JoinedCall, CallsApart, SomeMember, OneOwner}
use Rattle.model.proofs.Parts.{CallLaw, Sound}
use Rattle.model.proofs.Sessions.{Idle, idle-law, sessions-set}
use Rattle.model.proofs.Rows.{some-counts, one-counts}
use Rattle.model.proofs.Tables.{left-by}
use Rattle.model.proofs.Calls.{no-call-law, no-call-apart, apart-sym}

-- ---- a call is dropped where it concerns the slot, and kept elsewhere
pub dropped-in : (i : ℕ) (c : HeldCall) → concerns i c ≡ true → dropped i c ≡ no_call
unfolding dropped
dropped-in i c e = rw e

pub dropped-out : (i : ℕ) (c : HeldCall) → concerns i c ≡ false → dropped i c ≡ c
unfolding dropped
dropped-out i c e = rw e

-- a used call that does not concern the slot has neither its caller nor its callee there
pub not-concerned : (i : ℕ) (c : HeldCall) → concerns i c ≡ false → idle c ≡ false → (c.caller ≡ i → ⊥) × (c.callee ≡ i → ⊥)
unfolding concerns
not-concerned i c e u =
    let q = or-false (eqb c.caller i) (eqb c.callee i) (rw u at e) in
    (eqb-false c.caller i q.0, eqb-false c.callee i q.1)

-- calls that stand apart still do
dropped-apart : (i : ℕ) (c d : HeldCall) → CallsApart c d → CallsApart (dropped i c) (dropped i d)
dropped-apart i c d k =
    split (concerns i c)
    (λ e. rw (dropped-in i c e) (no-call-apart (dropped i d)))
    (λ e. split (concerns i d)
    (λ f. rw (dropped-in i d f) (apart-sym no_call (dropped i c) (no-call-apart (dropped i c))))
    (λ f. rw (dropped-out i c e, dropped-out i d f) k))

module _ (h : Hub) (i : ℕ) (status : Status) where
  -- the other slots keep their sessions
  pub ended-other : (j : ℕ) → (j ≡ i → ⊥) → session (ended h i status) j ≡ session h j
  unfolding session ended
  ended-other j q = get_or-set_other h.sessions i j (with_status status) no_session q

  dropped-law : (c : HeldCall) → CallLaw h c → CallLaw (ended h i status) (dropped i c)
  dropped-law c k =
      split (concerns i c)
      (λ e. rw (dropped-in i c e) (no-call-law (ended h i status)))
      (λ e. rw (dropped-out i c e) (record { used = λ u. kept e u (k.used u); free = k.free }))
    where
      kept : concerns i c ≡ false → idle c ≡ false → JoinedCall h c → JoinedCall (ended h i status) c
      kept e u j =
          let q = not-concerned i c e u in
          let a = ended-other c.caller q.0 in
          let b = ended-other c.callee q.1 in
          record {
            calling = rw a j.calling;
            serving = rw b j.serving;
            request = rw a j.request;
            first = j.first;
            invocation = rw b j.invocation;
          }

-- a slot's session ends
pub ended-sound : (h : Hub) → Sound h → (i : ℕ) → i < slots → (status : Status) → Idle status → Sound (ended h i status)
unfolding ended
ended-sound h l i b status q =
    let g : Hub = ended h i status in
    let n = l.sessions.size in
    let stay : (j : ℕ) → OpenAt h j → (j ≡ i → ⊥) → OpenAt g j = λ j o z. rw (ended-other h i status j z) o in
    record {
      sessions = sessions-set h.sessions i (with_status status) (omega arith) l.sessions (idle-law status q) (λ o. absurd (q o));
      subscriptions = left-by h valid_topic SomeMember h.subscriptions l.subscriptions g some-counts i b stay;
      registrations = left-by h valid_procedure OneOwner h.registrations l.registrations g one-counts i b stay;
      calls =
          record {
            size = length-map h.calls (dropped i) ∙ l.calls.size;
            each = all-image (CallLaw h) (CallLaw g) (dropped i) (dropped-law h i status) h.calls l.calls.each;
            apart = pairs-image CallsApart (dropped i) (dropped-apart i) h.calls l.calls.apart;
          };
    }
