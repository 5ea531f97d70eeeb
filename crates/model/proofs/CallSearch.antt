-- The searches of a lawful hub's held calls: the call that a slot serves under a number is the one found, since no other is like it; where
-- there is none, nothing is. Assumes nothing.
use Rattle.std.specs.Prelude.{Some, None}
use Prim.Native.Nat.{ℕ, ◌≤◌}
use mathlib.Core.Path.{◌≡◌, refl, sym, ◌∙◌}
use mathlib.Core.Bool.{true, false, not, ◌&&◌}
use mathlib.Core.List.{List}
use lib.ListN.{get_or}
use lib.Dec.{eqb}
use borrow.Author.Tests.{eqb-true, eqb-false, eq-eqb}
use Rattle.seq.specs.Lists.{first, Pairs}
use Rattle.seq.proofs.Logic.{split, clash, and_left, and_right, not_is}
use Rattle.seq.proofs.Rules.{pairs-at, all-at}
use Rattle.seq.proofs.Search.{first-none, first-only}
use Rattle.model.proofs.Calls.{no-call-apart, apart-sym}
use Rattle.model.specs.declared.HeldCall.{HeldCall}
use Rattle.model.specs.declared.Hub.{Hub}
use Rattle.model.specs.State.{no_call, session, idle, serves, call_at}
use Rattle.model.specs.Rules.{CallsApart, JoinedCall, Lawful}
use Rattle.model.specs.Demands.{Serves}

pub idle-none : idle no_call ≡ true
unfolding idle
idle-none = refl

-- ---- held calls at two places
-- held calls with one callee and invocation number are one call
one-served : (calls : List HeldCall) → Pairs CallsApart calls → (j k : ℕ) → idle (get_or calls j no_call) ≡ false → idle (get_or calls k no_call) ≡ false
    → (get_or calls j no_call).callee ≡ (get_or calls k no_call).callee → (get_or calls j no_call).invocation ≡ (get_or calls k no_call).invocation → j ≡ k
one-served calls apart j k u v e f =
    split (eqb j k) (eqb-true j k)
    (λ t. absurd ((pairs-at CallsApart no_call apart-sym no-call-apart calls apart j k (eqb-false j k t)).invocations u v e f))

-- ---- the test of a call, taken apart
module _ (i v : ℕ) (c : HeldCall) where
  pub is-served : idle c ≡ false → c.callee ≡ i → c.invocation ≡ v → serves i v c ≡ true
  unfolding serves
  is-served u e f = rw (u, eq-eqb c.callee i e, eq-eqb c.invocation v f)

  pub served-is : serves i v c ≡ true → (idle c ≡ false) × (c.callee ≡ i) × (c.invocation ≡ v)
  unfolding serves
  served-is t =
      let q : (eqb c.callee i && eqb c.invocation v) ≡ true = and_right (not (idle c)) _ t in (
        not_is (idle c) (and_left (not (idle c)) _ t),
        eqb-true c.callee i (and_left (eqb c.callee i) _ q),
        eqb-true c.invocation v (and_right (eqb c.callee i) _ q),
      )

-- ---- the searches
module _ (h : Hub) (i v : ℕ) where
  pub served-found : (k : ℕ) → Pairs CallsApart h.calls → Serves h i v k → first (serves i v) h.calls ≡ Some k
  served-found k apart a =
      first-only (serves i v) no_call h.calls k a.0 (is-served i v (call_at h k) a.1 a.2 a.3)
      (λ j q.
      let o = served-is i v (call_at h j) q in
      one-served h.calls apart j k o.0 a.1 (o.1 ∙ sym a.2) (o.2 ∙ sym a.3))

  pub served-none : ((k : ℕ) → ¬ (Serves h i v k)) → first (serves i v) h.calls ≡ None
  served-none f =
      first-none (serves i v) no_call h.calls
      (λ j l.
      split (serves i v (call_at h j))
      (λ q. let o = served-is i v (call_at h j) q in absurd (f j (l, o.0, o.1, o.2)))
      (λ q. q))

  -- the number of a held call was issued to its callee
  pub served-issued : (k : ℕ) → Lawful h → Serves h i v k → v ≤ (session h i).invocation
  served-issued k lawful a =
      let c : JoinedCall h (call_at h k) =
      all-at (λ c. idle c ≡ false → JoinedCall h c) no_call h.calls k (λ u. clash idle-none u) lawful.joined a.1
      in
      rw (← a.2, ← a.3) c.invocation
