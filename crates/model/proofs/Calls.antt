-- A change of the held calls keeps the state rules: a call is freed, or a new one is held under the caller's new request number and the
-- callee's next invocation number. Assumes nothing.
use Prim.Native.Nat.{ℕ, suc, ◌≤◌, ◌<◌}
use mathlib.Core.Bool.{true, false}
use mathlib.Core.Path.{◌≡◌, refl, sym, subst, ◌∙◌}
use native.Mathlib.Omega.{arith}
use borrow.Author.Tests.{eqb-true}
use lib.ListN.{set, length-set}
use Rattle.seq.specs.Lists.{All}
use Rattle.seq.proofs.Logic.{clash}
use Rattle.seq.proofs.Rules.{all_map, all_both, all_set, all_true, pairs_set}
use Rattle.uri.specs.Uri.{valid_topic, valid_procedure}
use Rattle.model.specs.declared.HeldCall.{HeldCall}
use Rattle.model.specs.declared.Hub.{Hub}
use Rattle.seq.specs.Numbers.{last_id}
use Rattle.model.specs.State.{no_call, session, with_session, idle, with_call}
use Rattle.model.specs.Rules.{OpenAt, CallsApart, SomeMember, OneOwner}
use Rattle.model.specs.Step.{numbered, issued}
use Rattle.model.proofs.Parts.{CallLaw, CallsLaw, Sound, Grows, grows_same, table-grows, calls-grow, open-inside}
use Rattle.model.proofs.Sessions.{issued-sound, issued-grows, issued-invocation}

-- ---- an unused row
no-call-idle : idle no_call ≡ true
unfolding idle
no-call-idle = refl

pub no-call-law : (h : Hub) → CallLaw h no_call
no-call-law h = record { used = λ u. clash no-call-idle u; free = λ _. refl }

-- it stands apart from every call
pub no-call-apart : (c : HeldCall) → CallsApart no_call c
no-call-apart c = record { requests = λ u. clash no-call-idle u; invocations = λ u. clash no-call-idle u }

pub apart-sym : (c d : HeldCall) → CallsApart c d → CallsApart d c
apart-sym c d k =
    record { requests = λ u v p q. k.requests v u (sym p) (sym q); invocations = λ u v p q. k.invocations v u (sym p) (sym q) }

-- ---- a row is written
module _ (h : Hub) (l : Sound h) where
  written : (k : ℕ) (c : HeldCall) → CallLaw h c → All (CallsApart c) h.calls → Sound (with_call h k c)
  unfolding with_call
  written k c law apart =
      let g : Hub = with_call h k c in
      let same : Grows h g = grows_same h g refl in
      let calls : CallsLaw h (set h.calls k c) =
      record {
        size = length-set h.calls k c ∙ l.calls.size;
        each = all_set (CallLaw h) h.calls k c law l.calls.each;
        apart =
            pairs_set CallsApart h.calls k c apart
            (all_map (CallsApart c) (λ d. CallsApart d c) (apart-sym c) h.calls apart)
            l.calls.apart;
      } in
      record {
        sessions = l.sessions;
        subscriptions = table-grows h g same valid_topic SomeMember h.subscriptions l.subscriptions;
        registrations = table-grows h g same valid_procedure OneOwner h.registrations l.registrations;
        calls = calls-grow h g same (set h.calls k c) calls;
      }

  -- a call is freed
  pub freed-sound : (k : ℕ) → Sound (with_call h k no_call)
  freed-sound k = written k no_call (no-call-law h) (all_true (CallsApart no_call) no-call-apart h.calls)

-- ---- a new call
-- the held calls of slot i have request numbers below n
abbrev pub Ahead : Hub → ℕ → ℕ → Type 0
Ahead h i n = All (λ c. idle c ≡ false → c.caller ≡ i → c.request < n) h.calls

-- so have they for the next request number, by rule 4
pub next-ahead : (h : Hub) → Sound h → (i n : ℕ) → n ≡ suc (session h i).request → Ahead (numbered h i n) i n
unfolding numbered with_session
next-ahead h l i n e =
    all_map (CallLaw h) _
    (λ c k u q. let r = subst (λ j. c.request ≤ (session h j).request) q (k.used u).request in omega arith)
    h.calls l.calls.each

module _ (h : Hub) (l : Sound h) (i n o : ℕ) (calling : OpenAt h i) (serving : OpenAt h o) (asked : (session h i).request ≡ n) (first : 1 ≤ n)
    (ahead : Ahead h i n) where
  held : HeldCall
  held = record { caller = i; request = n; callee = o; invocation = suc (session h o).invocation }

  -- its numbers are its sessions' last ones
  held-law : CallLaw (issued h o) held
  unfolding held idle
  held-law =
      let grows = issued-grows h l o (open-inside h l o serving) serving in
      let a = grows i calling in
      let b = grows o serving in
      let v = issued-invocation h l o (open-inside h l o serving) serving in
      record {
        used = λ _. record { calling = a.opened; serving = b.opened; request = omega arith; first = omega arith; invocation = omega arith };
        free = λ e. absurd (let z = eqb-true n 0 e in omega arith);
      }

  -- the calls held before have lower ones
  held-apart : All (CallsApart held) h.calls
  unfolding held
  held-apart =
      all_both (CallLaw h) (λ c. idle c ≡ false → c.caller ≡ i → c.request < n) (CallsApart held)
      (λ c k f.
      record {
        requests = λ _ u p q. let x = f u (sym p) in omega arith;
        invocations = λ _ u p q. let x = subst (λ j. c.invocation ≤ (session h j).invocation) (sym p) (k.used u).invocation in omega arith;
      })
      h.calls l.calls.each ahead

  -- the callee is issued the next invocation number, and the call is held
  pub held-sound : (session h o).invocation < last_id → (k : ℕ)
      → Sound (with_call (issued h o) k (record { caller = i; request = n; callee = o; invocation = suc (session h o).invocation }))
  unfolding issued with_session held
  held-sound low k = written (issued h o) (issued-sound h l o (open-inside h l o serving) serving low) k held held-law held-apart
