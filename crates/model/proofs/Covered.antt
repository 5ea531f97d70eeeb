-- The cases of demand 2 leave no step out (`Case`, specs/Complete.antt): a step that none of refusals 1 to 4 applies to is in one of them.
-- Assumes nothing.
use Rattle.std.specs.Prelude.{Some, None}
use Prim.Native.Nat.{ℕ, suc, ◌≤◌, ◌<◌}
use mathlib.Core.Path.{◌≡◌, refl, ◌∙◌, ap, subst}
use mathlib.Core.Logic.{◌⊎◌, inl, inr, ⊎_elim}
use mathlib.Core.Bool.{Bool, true, false}
use mathlib.Core.List.{List}
use native.Mathlib.Omega.{arith}
use lib.Dec.{eqb, leb, ltb}
use borrow.Author.Tests.{eqb-true, leb-true, leb-false, le-leb, eq-eqb, ltb-true, ltb-false}
use Rattle.seq.specs.Bytes.{Payload, same}
use Rattle.seq.specs.Numbers.{last_id}
use Rattle.seq.specs.Lists.{first}
use Rattle.seq.proofs.Logic.{split, clash, and_left, and_right}
use Rattle.seq.proofs.Rules.{all-at}
use Rattle.seq.proofs.Search.{split-found, found_inside, found-passes, found_before, missed}
use Rattle.seq.proofs.Bytes.{same-eq, same_refl}
use Rattle.uri.specs.declared.Policy.{Policy}
use Rattle.uri.specs.Uri.{valid_topic, valid_procedure, valid_published, valid_called}
use Rattle.pattern.specs.Choice.{no_row, choice}
use Rattle.pattern.specs.Right.{Right}
use Rattle.pattern.proofs.Chosen.{matching}
use Rattle.incoming.specs.Incoming as In
use Rattle.incoming.specs.Incoming.{Incoming}
use Rattle.incoming.specs.Read.{read}
use Rattle.options.specs.Audience.{Audience}
use Rattle.model.specs.declared.Table.{Table}
use Rattle.model.specs.declared.Hub.{Hub}
use Rattle.model.specs.declared.Event.{Event}
use Rattle.model.specs.declared.Event.TheVariants.{Attach, Detach, Message}
use Rattle.conversion.specs.Carried.{carried}
use Rattle.conversion.proofs.Carried.{split-carried}
use Rattle.model.specs.State.{slots, no_call, session, Phase, IsClosed, IsAttached, IsOpen, phase_at, format_at, unused, owner, is_of, is_held_by, row_at, idle, serves, call_at}
use Rattle.model.specs.Rules.{in_range, UsedRow, OneOwner, Sized, Lawful}
use Rattle.model.specs.Step.{Step, Early, Greets, Leaves, Wrong, early, realm_name, follows}
use Rattle.model.specs.Demands.{OutOfTime, Taken, NumberRefused, Numbered, RowOf, NoRowOf, RowHeld, LowestFree, Full, CallRoom, NoCallRoom, Serves, OnSlot, Heard, Asked, BadRequest, ViolatesEarly}
use Rattle.model.specs.Complete.{Case}
use Rattle.model.specs.Complete as By
use Rattle.model.proofs.Audience.{proper-or}
use Rattle.model.proofs.Lawful.{in-range, range-in}
use Rattle.model.proofs.RowSearch.{is-of, of_is, is_held, held-is}
use Rattle.model.proofs.CallSearch.{is-served, served-is}
use Rattle.model.proofs.Chosen.{choice-used}
use Rattle.model.proofs.Owner.{owner-holds}

-- ---- each search finds a row, or there is none
module _ (t : Table) where
  row-or-none : (p : Policy) (s : List ℕ) → ((k : ℕ) × RowOf t p s k) ⊎ NoRowOf t p s
  row-or-none p s =
      split-found (first (is_of p s) t.rows)
      (λ k e.
      let o = of_is p s (row_at t k) (found-passes (is_of p s) no_row t.rows k e) in
      inl (k, ((found_inside (is_of p s) no_row t.rows k e, o.0), o.1, o.2)))
      (λ e. inr (λ k a. clash (is-of p s (row_at t k) a.0.1 a.1 a.2) (missed (is_of p s) no_row t.rows e k a.0.0)))

  held-or-none : (i id : ℕ) → ((k : ℕ) × RowHeld t i id k) ⊎ ((k : ℕ) → ¬ (RowHeld t i id k))
  held-or-none i id =
      split-found (first (is_held_by i id) t.rows)
      (λ k e.
      let o = held-is i id (row_at t k) (found-passes (is_held_by i id) no_row t.rows k e) in
      inl (k, ((found_inside (is_held_by i id) no_row t.rows k e, o.0), o.1, o.2)))
      (λ e. inr (λ k a. clash (is_held i id (row_at t k) a.0.1 a.1 a.2) (missed (is_held_by i id) no_row t.rows e k a.0.0)))

  free-or-full : t.counter ≤ last_id → ((k : ℕ) × LowestFree t k × (t.counter < last_id)) ⊎ Full t
  free-or-full l =
      split (ltb t.counter last_id)
      (λ c.
      split-found (first unused t.rows)
      (λ k e.
      inl (
        k,
        record {
          inside = found_inside unused no_row t.rows k e;
          free = found-passes unused no_row t.rows k e;
          lowest = found_before unused no_row t.rows k e;
        },
        ltb-true t.counter last_id c,
      ))
      (λ e. inr (inl (missed unused no_row t.rows e))))
      (λ c. inr (inr (let g = ltb-false t.counter last_id c in omega arith)))

module _ (h : Hub) where
  serves-or-none : (i v : ℕ) → ((k : ℕ) × Serves h i v k) ⊎ ((k : ℕ) → ¬ (Serves h i v k))
  serves-or-none i v =
      split-found (first (serves i v) h.calls)
      (λ k e.
      let o = served-is i v (call_at h k) (found-passes (serves i v) no_call h.calls k e) in
      inl (k, (found_inside (serves i v) no_call h.calls k e, o.0, o.1, o.2)))
      (λ e. inr (λ k a. clash (is-served i v (call_at h k) a.1 a.2 a.3) (missed (serves i v) no_call h.calls e k a.0)))

  room-or-none : Lawful h → (c : ℕ) → ((k : ℕ) × CallRoom h c k) ⊎ NoCallRoom h c
  room-or-none lawful c =
      split (ltb (session h c).invocation last_id)
      (λ t.
      split-found (first idle h.calls)
      (λ k e.
      inl (
        k,
        record {
          inside = found_inside idle no_call h.calls k e;
          free = found-passes idle no_call h.calls k e;
          lowest = found_before idle no_call h.calls k e;
          counter = ltb-true (session h c).invocation last_id t;
        },
      ))
      (λ e. inr (inl (missed idle no_call h.calls e))))
      (λ t. inr (inr (let g = ltb-false (session h c).invocation last_id t in let w = (lawful.counters c).1 in omega arith)))

-- a used registration row keeps rule 3
used-registration : (h : Hub) → Lawful h → (k : ℕ) → unused (row_at h.registrations k) ≡ false
    → UsedRow h h.registrations.counter valid_procedure OneOwner (row_at h.registrations k)
used-registration h lawful k =
    all-at (λ r. unused r ≡ false → UsedRow h h.registrations.counter valid_procedure OneOwner r) no_row h.registrations.rows k
    (λ f. clash refl f) lawful.registrations.each

-- a message without a session is a HELLO, an ABORT, or a violation
wrong-violates : (m : Incoming) → early m ≡ Wrong → ViolatesEarly m
unfolding early
wrong-violates m e =
    let apart : (y : Early) → y ≡ Wrong → (y ≡ Leaves → ⊥) × ((realm : List ℕ) → y ≡ Greets realm → ⊥) =
    λ y p. (λ q. let z : ◌≡◌ {A = ℕ} 0 1 = cc in omega arith, λ realm q. let z : ◌≡◌ {A = ℕ} 0 1 = cc in omega arith) in
    (λ realm q. (apart (early m) e).1 realm (ap early q), λ q. (apart (early m) e).0 (ap early q))

hello-or-not : (m : Incoming) → ((realm : List ℕ) × (m ≡ In.Hello realm)) ⊎ ((m ≡ In.Abort) ⊎ ViolatesEarly m)
unfolding early
hello-or-not (In.Hello realm) = inl (realm, refl)
hello-or-not In.Abort = inr (inl refl)
hello-or-not In.Goodbye = inr (inr (wrong-violates In.Goodbye refl))
hello-or-not (In.Error v uri p) = inr (inr (wrong-violates (In.Error v uri p) refl))
hello-or-not (In.Publish n w u s p) = inr (inr (wrong-violates (In.Publish n w u s p) refl))
hello-or-not (In.Subscribe n m s) = inr (inr (wrong-violates (In.Subscribe n m s) refl))
hello-or-not (In.Unsubscribe n id) = inr (inr (wrong-violates (In.Unsubscribe n id) refl))
hello-or-not (In.Call n s p) = inr (inr (wrong-violates (In.Call n s p) refl))
hello-or-not (In.Register n m s) = inr (inr (wrong-violates (In.Register n m s) refl))
hello-or-not (In.Unregister n id) = inr (inr (wrong-violates (In.Unregister n id) refl))
hello-or-not (In.Yield v p) = inr (inr (wrong-violates (In.Yield v p) refl))
hello-or-not In.Violation = inr (inr (wrong-violates In.Violation refl))

-- ---- a message on an open session
module _ (h : Hub) (x : Step) (i number : ℕ) where
  abbrev Asks : ℕ → Incoming → Type 0
  Asks = Asked h x i number

  abbrev C : Type 0
  C = Case h x i number

  -- a request is out of order, or served
  request-case : (n : ℕ) {m : Incoming} → Heard h x i number IsOpen m → (BadRequest h i n → C) → (Asks n m → C) → C
  unfolding follows
  request-case n a bad good =
      let q = eqb n (suc (session h i).request) in
      split (follows (session h i).request n)
      (λ t. good (record { heard = a; next = eqb-true n _ (and_left q _ t); limit = leb-true n last_id (and_right q _ t) }))
      (λ t. bad (λ o. clash (rw (eq-eqb n _ o.0, le-leb n last_id o.1)) t))

  subscribe-case : (n : ℕ) (p : Policy) (s : List ℕ) → Asks n (In.Subscribe n (Some p) s) → C
  subscribe-case n p s a =
      split (valid_topic s p)
      (λ v.
      elim (row-or-none h.subscriptions p s) [
        | inl (k, r) ↦ By.subscribe_join n p s a v k r
        | inr none ↦ elim (free-or-full h.subscriptions a.heard.on.lawful.subscription_counter) [
          | inl (k, free, l) ↦ By.subscribe_new n p s a v none k free l
          | inr full ↦ By.subscribe_full n p s a v none full
        ]
      ])
      (λ v. By.subscribe_uri n p s a v)

  register-case : (n : ℕ) (p : Policy) (s : List ℕ) → Asks n (In.Register n (Some p) s) → C
  register-case n p s a =
      split (valid_procedure s p)
      (λ v.
      elim (row-or-none h.registrations p s) [
        | inl (k, r) ↦ By.register_twice n p s a v k r
        | inr none ↦ elim (free-or-full h.registrations a.heard.on.lawful.registration_counter) [
          | inl (k, free, l) ↦ By.register_new n p s a v none k free l
          | inr full ↦ By.register_full n p s a v none full
        ]
      ])
      (λ v. By.register_uri n p s a v)

  publish-case : (n : ℕ) (acknowledge : Bool) (u : Audience) (s : List ℕ) (p : Payload) → Asks n (In.Publish n acknowledge u s p) → C
  publish-case n true u s p a =
      ⊎_elim (λ w. By.publish_argument n u s p a w)
      (λ g. split (valid_published s) (λ v. By.publish_acknowledged n u s p a g v) (λ v. By.publish_uri n u s p a g v))
      (proper-or u)
  publish-case n false u s p a =
      ⊎_elim (λ w. By.publish_wrong n u s p a w)
      (λ g. split (valid_published s) (λ v. By.publish n u s p a g v) (λ v. By.publish_silent n u s p a g v))
      (proper-or u)

  unsubscribe-case : (n id : ℕ) → Asks n (In.Unsubscribe n id) → C
  unsubscribe-case n id a =
      elim (held-or-none h.subscriptions i id) [ inl (k, r) ↦ By.unsubscribe n id k a r | inr none ↦ By.unsubscribe_none n id a none ]

  unregister-case : (n id : ℕ) → Asks n (In.Unregister n id) → C
  unregister-case n id a =
      elim (held-or-none h.registrations i id) [ inl (k, r) ↦ By.unregister n id k a r | inr none ↦ By.unregister_none n id a none ]

  -- the right row's owner holds it, and there is room for the call or not
  right-case : (n : ℕ) (s : List ℕ) (p : Payload) → Asks n (In.Call n s p) → valid_called s ≡ true → (r : ℕ)
      → choice h.registrations.rows s ≡ Some r → C
  right-case n s p a v r e =
      let row = row_at h.registrations r in
      let lawful = a.heard.on.lawful in
      let right : Right h.registrations.rows s (Some r) = rw e at (matching.choice-right h.registrations.rows s) in
      let used = (choice-used h.registrations.rows s r e).1 in
      let one = (used-registration h lawful r used).wanted in
      split-carried (carried (format_at h i) (format_at h (owner row)) p)
      (λ q g.
      elim (room-or-none h lawful (owner row)) [
        | inl (k, room) ↦ By.call_routed n s p a v r k (owner row) q right (owner-holds row one) g room
        | inr full ↦ By.call_full n s p a v r q right g full
      ])
      (λ g. By.call_unconverted n s p a v r right g)

  call-case : (n : ℕ) (s : List ℕ) (p : Payload) → Asks n (In.Call n s p) → C
  call-case n s p a =
      split (valid_called s)
      (λ v.
      split-found (choice h.registrations.rows s)
      (right-case n s p a v)
      (λ e. By.call_none n s p a v (rw e at (matching.choice-right h.registrations.rows s))))
      (λ v. By.call_uri n s p a v)

  -- an answer is past the last number issued, of a held call, or dropped
  answer-case : (v : ℕ) → ((session h i).invocation < v → C) → ((k : ℕ) → Serves h i v k → C)
      → (v ≤ (session h i).invocation → ((k : ℕ) → ¬ (Serves h i v k)) → C) → C
  answer-case v bad found none =
      split (leb v (session h i).invocation)
      (λ t. elim (serves-or-none h i v) [ inl (k, s) ↦ found k s | inr f ↦ none (leb-true v _ t) f ])
      (λ t. bad (leb-false v _ t))

  open-case : (m : Incoming) → Heard h x i number IsOpen m → C
  open-case (In.Hello realm) a = By.violation (In.Hello realm) a tt
  open-case In.Abort a = By.abort a
  open-case In.Goodbye a = By.goodbye a
  open-case (In.Error v uri p) a =
      answer-case v (By.violation (In.Error v uri p) a)
      (λ k s. split-carried (carried (format_at h i) (format_at h (call_at h k).caller) p)
      (λ q g. By.error v k uri p q a s g) (λ g. By.error_unconverted v k uri p a s g))
      (By.error_dropped v uri p a)
  open-case (In.Publish n w u s p) a = request-case n a (By.violation (In.Publish n w u s p) a) (publish-case n w u s p)
  open-case (In.Subscribe n None s) a = request-case n a (By.violation (In.Subscribe n None s) a) (By.subscribe_match n s)
  open-case (In.Subscribe n (Some p) s) a = request-case n a (By.violation (In.Subscribe n (Some p) s) a) (subscribe-case n p s)
  open-case (In.Unsubscribe n id) a = request-case n a (By.violation (In.Unsubscribe n id) a) (unsubscribe-case n id)
  open-case (In.Call n s p) a = request-case n a (By.violation (In.Call n s p) a) (call-case n s p)
  open-case (In.Register n None s) a = request-case n a (By.violation (In.Register n None s) a) (By.register_match n s)
  open-case (In.Register n (Some p) s) a = request-case n a (By.violation (In.Register n (Some p) s) a) (register-case n p s)
  open-case (In.Unregister n id) a = request-case n a (By.violation (In.Unregister n id) a) (unregister-case n id)
  open-case (In.Yield v p) a =
      answer-case v (By.violation (In.Yield v p) a)
      (λ k s. split-carried (carried (format_at h i) (format_at h (call_at h k).caller) p)
      (λ q g. By.yield v k p q a s g) (λ g. By.yield_unconverted v k p a s g))
      (By.yield_dropped v p a)
  open-case In.Violation a = By.violation In.Violation a tt

  -- ---- a message on an attached slot
  early-case : (m : Incoming) → Heard h x i number IsAttached m → (m ≡ In.Hello realm_name → ¬ (Taken h number)) → C
  early-case m a free =
      elim (hello-or-not m) [
        | inl (realm, e) ↦
            split (same realm realm_name)
            (λ t. let q = e ∙ ap In.Hello (same-eq realm realm_name t) in By.welcome (subst (Heard h x i number IsAttached) q a) (free q))
            (λ t.
            By.other_realm realm (λ q. clash (rw q (same_refl realm_name)) t) (subst (Heard h x i number IsAttached) e a))
        | inr (inl e) ↦ By.abort_early (subst (Heard h x i number IsAttached) e a)
        | inr (inr w) ↦ By.violation_early m a w
      ]

-- ---- a step, by its event and the slot's status
module _ (h : Hub) (x : Step) (sized : Sized h) (lawful : Lawful h) (inside : x.slot < slots) where
  abbrev SomeCase : Type 0
  SomeCase = (number : ℕ) × Case h x x.slot number

  on : (e : Event) (s : Phase) → x.event ≡ e → phase_at h x.slot ≡ s → OnSlot h x x.slot e s
  on e s p q = record { sized = sized; lawful = lawful; slot = refl; inside = inside; event = p; status = q }

  range : (number : ℕ) → ¬ (NumberRefused h x.slot (Message number) x.bytes) → (1 ≤ number) × (number ≤ last_id)
  range number fresh =
      split (in_range number last_id)
      (range-in number last_id)
      (λ t. absurd (fresh (inl (λ r. clash (in-range number last_id r.0 r.1) t))))

  hearing : (number : ℕ) (s : Phase) → x.event ≡ Message number → phase_at h x.slot ≡ s
      → ¬ (NumberRefused h x.slot (Message number) x.bytes) → Heard h x x.slot number s (read (format_at h x.slot) x.bytes)
  hearing number s p q fresh =
      let r = range number fresh in
      record { on = on (Message number) s p q; positive = r.0; limit = r.1; message = refl }

  some-case : (e : Event) (s : Phase) → x.event ≡ e → phase_at h x.slot ≡ s → ¬ (OutOfTime e s)
      → ¬ (NumberRefused h x.slot e x.bytes) → SomeCase
  some-case (Attach f) IsClosed p q time fresh = (0, By.attach f (on (Attach f) IsClosed p q))
  some-case (Attach f) IsAttached p q time fresh = absurd (time (λ c. let z : ◌≡◌ {A = ℕ} 0 1 = cc in omega arith))
  some-case (Attach f) IsOpen p q time fresh = absurd (time (λ c. let z : ◌≡◌ {A = ℕ} 0 1 = cc in omega arith))
  some-case Detach IsClosed p q time fresh = absurd (time refl)
  some-case Detach IsAttached p q time fresh = (0, By.detach_attached (on Detach IsAttached p q))
  some-case Detach IsOpen p q time fresh = (0, By.detach_open (on Detach IsOpen p q))
  some-case (Message number) IsClosed p q time fresh = absurd (time refl)
  some-case (Message number) IsAttached p q time fresh =
      (number, early-case h x x.slot number (read (format_at h x.slot) x.bytes) (hearing number IsAttached p q fresh) (λ e t. fresh (inr (q, e, t))))
  some-case (Message number) IsOpen p q time fresh =
      (number, open-case h x x.slot number (read (format_at h x.slot) x.bytes) (hearing number IsOpen p q fresh))

pub covered : (h : Hub) (x : Step) (room : ℕ) → Sized h → Numbered h x room → (number : ℕ) × Case h x x.slot number
covered h x room sized (((lawful, inside), time), fresh) =
    some-case h x sized lawful inside x.event (phase_at h x.slot) refl refl time fresh
