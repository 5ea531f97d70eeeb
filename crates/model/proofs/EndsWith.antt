-- A session's end: it sends its own message and then canceled by row, for exactly the held calls it served for another session, and the state
-- after is as demand 2 says. Assumes nothing.
use Prim.Native.Nat.{ℕ, suc, ◌+◌, ◌<◌}
use mathlib.Core.Path.{◌≡◌, refl, ◌∙◌, ap, ap₂, subst}
use mathlib.Core.Logic.{◌⊎◌, inl, inr, ◌↔◌}
use mathlib.Core.Bool.{Bool, true, false, not, ◌&&◌}
use mathlib.Core.List.{List, [], ◌∷◌, ◌++◌, map}
use native.Mathlib.Omega.{arith}
use lib.ListN.{get_or, get_or-map}
use lib.Seq.{get_or-set_same, get_or-set_other}
use lib.Dec.{eqb}
use borrow.Author.Tests.{eqb-true, eqb-false, eq-eqb, ne_eqb}
use Rattle.seq.proofs.Logic.{split, clash, and_left, and_right, and-false, not_is}
use Rattle.seq.proofs.Rules.{all-at}
use Rattle.uri.specs.Uri.{valid_procedure}
use Rattle.pattern.specs.declared.Row.{Row}
use Rattle.pattern.specs.Choice.{no_row}
use Rattle.outgoing.specs.Outgoing as Out
use Rattle.outgoing.specs.Layout.{Mail}
use Rattle.model.specs.declared.Status.{Status}
use Rattle.model.specs.declared.Table.{Table}
use Rattle.model.specs.declared.HeldCall.{HeldCall}
use Rattle.model.specs.declared.Hub.{Hub}
use Rattle.model.specs.State.{slots, with_status, no_session, no_call, session, unused, holds, holder_count, left, row_at, left_by, idle, concerns, serves_other, dropped, call_at, ended}
use Rattle.model.specs.Rules.{Sized, Lawful, UsedRow, OneOwner}
use Rattle.model.specs.Step.{Step, mail, canceled, cancels, ends}
use Rattle.model.specs.Run.{In}
use Rattle.model.specs.Demands.{Leads, Ended, ServedForOther, cancel_mail, EndsWith}
use Rattle.model.proofs.Decided.{leading}
use Rattle.model.proofs.RowChange.{none-holds, left-last, leaves-row}
use Rattle.model.proofs.Passing.{places, places-rising, places-exactly}

-- ---- canceled, by row
-- held call k is served for another session
abbrev pub served_at : ℕ → ℕ → HeldCall → Bool
served_at i k c = serves_other i c

module _ (h : Hub) (i : ℕ) where
  other-is : (k : ℕ) → serves_other i (call_at h k) ≡ true → ServedForOther h i k
  unfolding serves_other
  other-is k t =
      let c = call_at h k in
      let q : (eqb c.callee i && not (eqb c.caller i)) ≡ true = and_right (not (idle c)) _ t in (
        not_is (idle c) (and_left (not (idle c)) _ t),
        eqb-true c.callee i (and_left (eqb c.callee i) _ q),
        eqb-false c.caller i (not_is (eqb c.caller i) (and_right (eqb c.callee i) _ q)),
      )

  is-other : (k : ℕ) → ServedForOther h i k → serves_other i (call_at h k) ≡ true
  unfolding serves_other
  is-other k a = rw (a.0, eq-eqb (call_at h k).callee i a.1, ne_eqb (call_at h k).caller i a.2)

  no_other : (k : ℕ) → served_at i k no_call ≡ false
  unfolding serves_other idle
  no_other k = refl

  pub rows-exactly : (k : ℕ) → In k (places (served_at i) 0 h.calls) ↔ ServedForOther h i k
  rows-exactly k =
      let e = places-exactly (served_at i) no_call no_other h.calls k in
      (λ a. other-is k (e.0 a), λ a. e.1 (is-other k a))

  -- the calls cs stand in the table from place j on
  pub cancel-mails : (j : ℕ) (cs : List HeldCall) → ((m : ℕ) → get_or cs m no_call ≡ call_at h (j + m))
      → cancels i cs ≡ map (cancel_mail h) (places (served_at i) j cs)
  unfolding cancels places
  cancel-mails j [] e = refl
  cancel-mails j (c ∷ cs) e =
      let z : j + 0 ≡ j = omega arith in
      let f : c ≡ call_at h j = rw z at (e 0) in
      let r =
      cancel-mails (suc j) cs (λ m. let q : j + suc m ≡ suc j + m = omega arith in rw q at (e (suc m)))
      in
      split (serves_other i c)
      (λ t. rw t (ap₂ ◌∷◌ (ap (λ (c : HeldCall). mail c.caller (Out.Reply c.request canceled)) f) r))
      (λ t. rw t r)

-- ---- the state after
left_out : (i : ℕ) (r : Row) → holds i r ≡ false → left i r ≡ r
unfolding left
left_out i r e = rw e

left_at : (i : ℕ) (t : Table) (k : ℕ) → row_at (left_by i t) k ≡ left i (row_at t k)
unfolding left_by
left_at i t k =
    let e : left i no_row ≡ no_row = left_out i no_row (none-holds slots i) in
    subst (λ r. get_or (map (left i) t.rows) k r ≡ left i (row_at t k)) e (get_or-map (left i) t.rows k no_row)

module _ (i : ℕ) (c : HeldCall) where
  dropped-idle : idle c ≡ true → dropped i c ≡ c
  unfolding dropped concerns
  dropped-idle u = rw u

  dropped-in : idle c ≡ false → (c.caller ≡ i) ⊎ (c.callee ≡ i) → dropped i c ≡ no_call
  unfolding dropped concerns
  dropped-in u (inl e) = rw (u, eq-eqb c.caller i e)
  dropped-in u (inr e) = rw (u, eq-eqb c.callee i e) (split (eqb c.caller i) (λ t. rw t) (λ t. rw t))

  dropped-out : ¬ (c.caller ≡ i) → ¬ (c.callee ≡ i) → dropped i c ≡ c
  unfolding dropped concerns
  dropped-out n m = rw (ne_eqb c.caller i n, ne_eqb c.callee i m, and-false (not (idle c)) false refl)

dropped-at : (i : ℕ) (cs : List HeldCall) (k : ℕ) → get_or (map (dropped i) cs) k no_call ≡ dropped i (get_or cs k no_call)
dropped-at i cs k =
    let e : dropped i no_call ≡ no_call = unfold dropped in split (concerns i no_call) (λ t. rw t) (λ t. rw t) in
    subst (λ c. get_or (map (dropped i) cs) k c ≡ dropped i (get_or cs k no_call)) e (get_or-map (dropped i) cs k no_call)

-- a registration that a slot holds has no other holder
pub owned-alone : (h : Hub) → Lawful h → (k i : ℕ) → holds i (row_at h.registrations k) ≡ true → holder_count (row_at h.registrations k) ≡ 1
owned-alone h lawful k i e =
    let r = row_at h.registrations k in
    split (unused r)
    (λ u.
    let z : r ≡ no_row = all-at (λ r. unused r ≡ true → r ≡ no_row) no_row h.registrations.rows k (λ v. refl) lawful.free_registrations u in
    clash e (rw z (none-holds slots i)))
    (λ u.
    (all-at (λ r. unused r ≡ false → UsedRow h h.registrations.counter valid_procedure OneOwner r) no_row h.registrations.rows k
    (λ v. clash refl v) lawful.registrations.each u).wanted)

module _ (h : Hub) (i : ℕ) (status : Status) (sized : Sized h) (lawful : Lawful h) (inside : i < slots) where
  pub ended-as : Ended h (ended h i status) i status
  unfolding ended session
  ended-as =
      record {
        slot = get_or-set_same h.sessions i (with_status status) no_session (rw sized.sessions inside);
        sessions = λ j n. get_or-set_other h.sessions i j (with_status status) no_session n;
        subscription_counter = unfold left_by in refl;
        registration_counter = unfold left_by in refl;
        members = λ k e. rw (left_at i h.subscriptions k) (leaves-row (row_at h.subscriptions k) i e);
        owners = λ k e. left_at i h.registrations k ∙ left-last (row_at h.registrations k) i e (owned-alone h lawful k i e);
        subscriptions = λ k e. left_at i h.subscriptions k ∙ left_out i (row_at h.subscriptions k) e;
        registrations = λ k e. left_at i h.registrations k ∙ left_out i (row_at h.registrations k) e;
        freed = λ k u e. dropped-at i h.calls k ∙ dropped-in i (call_at h k) u e;
        calls = λ k n m. dropped-at i h.calls k ∙ dropped-out i (call_at h k) n m;
        unused = λ k u. dropped-at i h.calls k ∙ dropped-idle i (call_at h k) u;
      }

  -- a step that ends the session
  pub ends_with : (x : Step) (own : List Mail) → ((h' : Hub) (ms : List Mail) → ends h i status own ≡ leading h' ms → Leads h x ms h')
      → EndsWith h x i status own
  ends_with x own to =
      let rows = places (served_at i) 0 h.calls in
      record {
        rows = rows;
        rising = places-rising (served_at i) no_call h.calls 0;
        exactly = rows-exactly h i;
        after = ended h i status;
        ended = ended-as;
        leads =
            to (ended h i status) (own ++ map (cancel_mail h) rows)
            (unfold ends in rw (cancel-mails h i 0 h.calls (λ m. let q : 0 + m ≡ m = omega arith in rw q)));
      }
