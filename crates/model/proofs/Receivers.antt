-- The events of a PUBLISH: one to each member of a fitting row that the options leave, if it converts for it, by row and then by slot. Assumes nothing.
use Prim.Native.Nat.{ℕ, zero, suc, ◌+◌, ◌<◌}
use mathlib.Core.Path.{◌≡◌, refl, sym, subst, ◌∙◌, ap, ap₂}
use mathlib.Core.Logic.{inl, inr, ⊎_elim, ◌↔◌}
use mathlib.Core.Bool.{Bool, true, false, cond, ◌&&◌}
use mathlib.Core.List.{List, [], ◌∷◌, ◌++◌, map, map-append, append_assoc}
use native.Mathlib.Omega.{arith}
use lib.ListN.{length, get_or}
use lib.Dec.{ltb}
use borrow.Author.Tests.{lt-ltb}
use Rattle.seq.specs.Lists.{joined, All, Pairs}
use Rattle.seq.proofs.Logic.{split, and_left, and_right, and_both}
use Rattle.seq.specs.Bytes.{Payload}
use Rattle.seq.proofs.Joined.{joined_same}
use Rattle.conversion.specs.Carried.{Carried, As, on_carried, carried}
use Rattle.conversion.proofs.Carried.{carried-case}
use Rattle.pattern.specs.declared.Row.{Row}
use Rattle.pattern.specs.Choice.{no_row, fits_row}
use Rattle.outgoing.specs.Outgoing as Out
use Rattle.outgoing.specs.Outgoing.{Outgoing}
use Rattle.outgoing.specs.Layout.{Mail}
use Rattle.model.specs.declared.Hub.{Hub}
use Rattle.options.specs.Audience.{Audience}
use Rattle.model.specs.State.{slots, session, holds, format_at, row_at}
use Rattle.model.specs.Rules.{OpenAt, Sized, Lawful}
use Rattle.model.specs.Step.{Step, mail, details_for, event_to, events_to, row_events, leaves_at}
use Rattle.model.specs.Run.{In}
use Rattle.model.specs.Demands.{Leads, Reaches, Receives, Receiver, Before, event_mail}
use Rattle.model.proofs.Audience.{member-open, leaves-is, is-leaves}
use Rattle.model.proofs.Formats.{events-same}
use Rattle.model.proofs.Matches.{open-inside}
use Rattle.model.proofs.Passing.{places, places-rising, places-exactly, in-append}

-- slot j, a holder or not, receives what may go to some slots
abbrev is_receiver : (ℕ → Bool) → ℕ → Bool → Bool
is_receiver to j b = b && to j

-- the slots that receive a row's event
row_receivers : (ℕ → Bool) → List ℕ → Row → List ℕ
row_receivers to topic r = cond (fits_row topic r) (places (is_receiver to) 0 r.holders) []

abbrev at : ℕ → ℕ → Payload → Receiver
at k j q = record { row = k; slot = j; payload = q }

-- payloads for each slot, from a format
abbrev Going : Type 0
Going = ℕ → Carried

-- the receiver in slot j of row k, if the payload converts for it
abbrev going : Going → ℕ → ℕ → List Receiver
going c k j = on_carried (c j) (λ q. at k j q ∷ []) []

-- the receivers of all rows, the first of which has place k
receivers : Going → (ℕ → Bool) → List ℕ → ℕ → List Row → List Receiver
receivers c to topic k [] = []
receivers c to topic k (r ∷ rs) = joined (going c k) (row_receivers to topic r) ++ receivers c to topic (suc k) rs

-- ---- by row, then by slot
-- the rest comes after every receiver of a row up to k
abbrev Later : ℕ → List Receiver → Type 0
Later k rest = (a : Receiver) → a.row < suc k → All (Before a) rest

module _ (c : Going) (k : ℕ) where
  -- by whether the payload converts for the first of some slots
  next-slot : (P : List Receiver → Type 0) (j : ℕ) (js : List ℕ) (rest : List Receiver)
      → ((q : Payload) → P (at k j q ∷ (joined (going c k) js ++ rest))) → P (joined (going c k) js ++ rest) → P (joined (going c k) (j ∷ js) ++ rest)
  next-slot P j js rest f g =
      rw (append_assoc (going c k j) (joined (going c k) js) rest)
      (carried-case (λ l. P (l ++ (joined (going c k) js ++ rest))) (c j) (λ q. at k j q ∷ []) [] (λ q _. f q) (λ _. g))

  after-slot : (js : List ℕ) (rest : List Receiver) → Later k rest → (j : ℕ) (q : Payload) → All (λ m. j < m) js
      → All (Before (at k j q)) (joined (going c k) js ++ rest)
  after-slot [] rest f j q l = f (at k j q) (omega arith)
  after-slot (m ∷ js) rest f j q l =
      let r = after-slot js rest f j q l.1 in
      next-slot (All (Before (at k j q))) m js rest (λ _. (inr (refl, l.0), r)) r

  after-row : (js : List ℕ) (rest : List Receiver) → Later k rest → (a : Receiver) → a.row < k → All (Before a) (joined (going c k) js ++ rest)
  after-row [] rest f a l = f a (omega arith)
  after-row (j ∷ js) rest f a l = let r = after-row js rest f a l in next-slot (All (Before a)) j js rest (λ _. (inl l, r)) r

  in-order : (js : List ℕ) (rest : List Receiver) → Later k rest → Pairs ◌<◌ js → Pairs Before rest → Pairs Before (joined (going c k) js ++ rest)
  in-order [] rest f r o = o
  in-order (j ∷ js) rest f r o =
      let w = in-order js rest f r.1 o in
      next-slot (Pairs Before) j js rest (λ q. (after-slot js rest f j q r.0, w)) w

module _ (c : Going) (to : ℕ → Bool) (topic : List ℕ) where
  row-rising : (r : Row) → Pairs ◌<◌ (row_receivers to topic r)
  unfolding row_receivers
  row-rising r = split (fits_row topic r) (λ t. rw t (places-rising (is_receiver to) false r.holders 0)) (λ t. rw t tt)

  receivers-later : (rs : List Row) (k : ℕ) (a : Receiver) → a.row < k → All (Before a) (receivers c to topic k rs)
  unfolding receivers
  receivers-later [] k a l = tt
  receivers-later (r ∷ rs) k a l =
      after-row c k (row_receivers to topic r) (receivers c to topic (suc k) rs) (receivers-later rs (suc k)) a l

  receivers-order : (rs : List Row) (k : ℕ) → Pairs Before (receivers c to topic k rs)
  unfolding receivers
  receivers-order [] k = tt
  receivers-order (r ∷ rs) k =
      in-order c k (row_receivers to topic r) (receivers c to topic (suc k) rs) (receivers-later rs (suc k)) (row-rising r) (receivers-order rs (suc k))

-- ---- exactly the members of fitting rows that are left
slots_at : (c : Going) (k b j : ℕ) (q : Payload) (js : List ℕ) → In (at k j q) (joined (going c b) js) → (k ≡ b) × In j js × (c j ≡ As q)
slots_at c k b j q [] a = absurd a
slots_at c k b j q (m ∷ js) a =
    ⊎_elim (λ z. here (carried-case (λ l. In (at k j q) l → (p : Payload) × (c m ≡ As p) × (at k j q ≡ at b m p)) (c m) _ _
    (λ p e. λ y. ⊎_elim (λ w. (p, e, w)) (λ w. absurd w) y) (λ _ y. absurd y) z))
    (λ z. let r = slots_at c k b j q js z in (r.0, inr r.1, r.2))
    ((in-append (at k j q) (going c b m) (joined (going c b) js)).0 a)
  where
    here : (p : Payload) × (c m ≡ As p) × (at k j q ≡ at b m p) → (k ≡ b) × In j (m ∷ js) × (c j ≡ As q)
    here (p, e, w) =
        let x : j ≡ m = ap (λ (a : Receiver). a.slot) w in
        let y : q ≡ p = ap (λ (a : Receiver). a.payload) w in
        (ap (λ (a : Receiver). a.row) w, inl x, rw (x, y) e)

at_slots : (c : Going) (k j : ℕ) (q : Payload) (js : List ℕ) → In j js → c j ≡ As q → In (at k j q) (joined (going c k) js)
at_slots c k j q [] a e = absurd a
at_slots c k j q (m ∷ js) a e =
    (in-append (at k j q) (going c k m) (joined (going c k) js)).1
    (⊎_elim (λ z. inl (subst (λ s. In (at k j q) (going c k s)) z (rw e (inl refl)))) (λ z. inr (at_slots c k j q js z e)) a)

module _ (c : Going) (to : ℕ → Bool) (topic : List ℕ) where
  record Member (r : Row) (j : ℕ) : Type 0 where
    pub fits : fits_row topic r ≡ true
    pub member : holds j r ≡ true
    pub left : to j ≡ true

  row-member : (r : Row) (j : ℕ) → In j (row_receivers to topic r) → Member r j
  unfolding row_receivers
  row-member r j =
      split (fits_row topic r)
      (λ t. rw t (λ a.
      let u : is_receiver to j (holds j r) ≡ true = (places-exactly (is_receiver to) false (λ k. refl) r.holders j).0 a in
      record {
        fits = t;
        member = and_left (holds j r) _ u;
        left = and_right (holds j r) _ u;
      }))
      (λ t. rw t (λ a. absurd a))

  member-row : (r : Row) (j : ℕ) → Member r j → In j (row_receivers to topic r)
  unfolding row_receivers
  member-row r j a =
      rw a.fits
      ((places-exactly (is_receiver to) false (λ k. refl) r.holders j).1 (rw (a.member, a.left)))

  abbrev MemberAt : List Row → ℕ → ℕ → ℕ → Payload → Type 0
  MemberAt rs b k j q = (m : ℕ) × (k ≡ b + m) × (m < length rs) × Member (get_or rs m no_row) j × (c j ≡ As q)

  receives-at : (rs : List Row) (b k j : ℕ) (q : Payload) → In (at k j q) (receivers c to topic b rs) → MemberAt rs b k j q
  unfolding receivers
  receives-at [] b k j q = λ a. absurd a
  receives-at (r ∷ rs) b k j q =
      λ a.
      ⊎_elim
      (λ y. let z = slots_at c k b j q (row_receivers to topic r) y in let e = z.0 in (0, omega arith, omega arith, row-member r j z.1, z.2))
      (λ y. let (m, e, l, z, w) = receives-at rs (suc b) k j q y in (suc m, omega arith, omega arith, z, w))
      ((in-append (at k j q) (joined (going c b) (row_receivers to topic r)) (receivers c to topic (suc b) rs)).0 a)

  at-receives : (rs : List Row) (b m j : ℕ) (q : Payload) → m < length rs → Member (get_or rs m no_row) j → c j ≡ As q
      → In (at (b + m) j q) (receivers c to topic b rs)
  unfolding receivers
  at-receives [] b m j q l a w = absurd (omega arith)
  at-receives (r ∷ rs) b zero j q l a w =
      let e : b + 0 ≡ b = omega arith in
      rw e
      ((in-append (at b j q) (joined (going c b) (row_receivers to topic r)) (receivers c to topic (suc b) rs)).1
      (inl (at_slots c b j q (row_receivers to topic r) (member-row r j a) w)))
  at-receives (r ∷ rs) b (suc m) j q l a w =
      let e : b + suc m ≡ suc b + m = omega arith in
      rw e
      ((in-append (at (suc b + m) j q) (joined (going c b) (row_receivers to topic r)) (receivers c to topic (suc b) rs)).1
      (inr (at-receives rs (suc b) m j q (omega arith) a w)))

  abbrev ReceivesAt : Hub → ℕ → ℕ → Type 0
  ReceivesAt h k j = (k < length h.subscriptions.rows) × Member (row_at h.subscriptions k) j

  receivers-exactly : (h : Hub) (k j : ℕ) (q : Payload)
      → In (at k j q) (receivers c to topic 0 h.subscriptions.rows) ↔ (ReceivesAt h k j × (c j ≡ As q))
  receivers-exactly h k j q = (
    λ a.
        let (m, e, l, z, y) = receives-at h.subscriptions.rows 0 k j q a in
        let n : m ≡ k = omega arith in
        ((omega arith, rw n at z), y),
    λ (a, y).
        let z : 0 + k ≡ k = omega arith in
        rw z at (at-receives h.subscriptions.rows 0 k j q a.0 a.1 y),
  )

-- ---- the mails
-- an event to a slot, by what its payload comes to there
abbrev event_by : Going → (Payload → Outgoing) → ℕ → List Mail
event_by c event j = on_carried (c j) (λ p. mail j (event p) ∷ []) []

to_slots : (c : Going) (to : ℕ → Bool) (event : Payload → Outgoing) (j : ℕ) (bs : List Bool)
    → events_to (event_by c event) to j bs ≡ joined (event_by c event) (places (is_receiver to) j bs)
unfolding events_to places
to_slots c to event j [] = refl
to_slots c to event j (b ∷ bs) =
    let r = to_slots c to event (suc j) bs in
    split (is_receiver to j b) (λ t. rw t (ap (λ ms. event_by c event j ++ ms) r)) (λ t. rw t r)

module _ (c : Going) (h : Hub) (to : ℕ → Bool) (publication : ℕ) (topic : List ℕ) where
  -- a row's event, by the payload
  abbrev event_of : ℕ → Payload → Outgoing
  event_of k = Out.Event (row_at h.subscriptions k).number publication (details_for (row_at h.subscriptions k).policy topic)

  slot-mails : (k : ℕ) (js : List ℕ) → joined (event_by c (event_of k)) js ≡ map (event_mail h publication topic) (joined (going c k) js)
  slot-mails k [] = refl
  slot-mails k (j ∷ js) =
      ap₂ ◌++◌
      (carried-case (λ l. on_carried (c j) (λ p. mail j (event_of k p) ∷ []) [] ≡ map (event_mail h publication topic) l) (c j) _ _ (λ p e. rw e) (λ e. rw e))
      (slot-mails k js)
      ∙ sym (map-append (event_mail h publication topic) (going c k j) (joined (going c k) js))

  -- one row's event to its members that are left
  abbrev row_mails : Row → List Mail
  row_mails r =
      cond (fits_row topic r) (events_to (event_by c (Out.Event r.number publication (details_for r.policy topic))) to 0 r.holders) []

  row-mails : (k : ℕ)
      → row_mails (row_at h.subscriptions k) ≡ map (event_mail h publication topic) (joined (going c k) (row_receivers to topic (row_at h.subscriptions k)))
  unfolding row_receivers
  row-mails k =
      let r = row_at h.subscriptions k in
      split (fits_row topic r)
      (λ t. rw t (to_slots c to (event_of k) 0 r.holders ∙ slot-mails k (places (is_receiver to) 0 r.holders)))
      (λ t. rw t)

  -- the rows rs stand in the table from place k on
  event-mails : (k : ℕ) (rs : List Row) → ((m : ℕ) → get_or rs m no_row ≡ row_at h.subscriptions (k + m))
      → joined row_mails rs ≡ map (event_mail h publication topic) (receivers c to topic k rs)
  unfolding receivers
  event-mails k [] e = refl
  event-mails k (r ∷ rs) e =
      let z : k + 0 ≡ k = omega arith in
      let f : r ≡ row_at h.subscriptions k = rw z at (e 0) in
      let g : row_mails r ≡ map (event_mail h publication topic) (joined (going c k) (row_receivers to topic r)) = rw f (row-mails k) in
      ap₂ ◌++◌ g (event-mails (suc k) rs (λ m. let q : k + suc m ≡ suc k + m = omega arith in rw q at (e (suc m))))
      ∙ sym (map-append (event_mail h publication topic) (joined (going c k) (row_receivers to topic r)) (receivers c to topic (suc k) rs))

-- a step on an open session that sends messages of its own and then the events; g is the hub in which the publisher's request has its number
module _ (h : Hub) (x : Step) (i number : ℕ) (audience : Audience) (topic : List ℕ) (payload : Payload) (sized : Sized h) (lawful : Lawful h)
    (me : OpenAt h i) where
  abbrev here : Going
  here j = carried (format_at h i) (format_at h j) payload

  to_same : (g : Hub) → ((j : ℕ) → format_at g j ≡ format_at h j) → (event : Payload → Outgoing) (j : ℕ)
      → event_to g i event payload j ≡ event_by here event j
  unfolding event_to
  to_same g s event j = rw (s i, s j)

  row_same : (g : Hub) → ((j : ℕ) → format_at g j ≡ format_at h j) → (to : ℕ → Bool) (r : Row)
      → row_events g i to number topic payload r ≡ row_mails here h to number topic r
  unfolding row_events
  row_same g s to r = split (fits_row topic r) (λ t. rw t (events-same _ _ (to_same g s _) to 0 r.holders)) (λ t. rw t)

  -- the members that the options leave, by their slots or by their sessions' IDs
  module _ (g : Hub) (same : (j : ℕ) → (session g j).id ≡ (session h j).id) where
    abbrev left : ℕ → Bool
    left = leaves_at g i audience

    received : (k j : ℕ) → ReceivesAt here left topic h k j → Receives h i audience topic k j
    unfolding leaves_at
    received k j (l, m) =
        let it = member-open h lawful topic k j m.fits m.member in
        let z = and_right (ltb j slots) _ m.left in
        (l, m.fits, m.member, leaves-is h lawful i audience me j it (rw (same j) at z))

    receiving : (k j : ℕ) → Receives h i audience topic k j → ReceivesAt here left topic h k j
    unfolding leaves_at
    receiving k j (l, fits, member, leaves) =
        let it = member-open h lawful topic k j fits member in
        let o = open-inside h j it in
        let z = sized.sessions in
        let inside : j < slots = omega arith in (
          l,
          record {
            fits = fits;
            member = member;
            left = and_both (lt-ltb j slots inside) (rw (same j) (is-leaves h lawful i audience me j it leaves));
          },
        )

    left-exactly : (k j : ℕ) (q : Payload)
        → In (at k j q) (receivers here left topic 0 h.subscriptions.rows) ↔ (Receives h i audience topic k j × (here j ≡ As q))
    left-exactly k j q =
        let e = receivers-exactly here left topic h k j q in (
          λ a. let (r, y) = e.0 a in (received k j r, y),
          λ (r, y). e.1 (receiving k j r, y),
        )

    pub reaches : ((j : ℕ) → format_at g j ≡ format_at h j) → (own : List Mail) (after : Hub)
        → ((ms : List Mail) → own ++ joined (row_events g i left number topic payload) h.subscriptions.rows ≡ ms → Leads h x ms after)
        → Reaches h x i number audience topic payload own after
    reaches s own after leads =
        let rows = h.subscriptions.rows in
        record {
          receivers = receivers here left topic 0 rows;
          order = receivers-order here left topic rows 0;
          exactly = left-exactly;
          leads =
              leads (own ++ map (event_mail h number topic) (receivers here left topic 0 rows))
              (ap (λ ms. own ++ ms)
              (joined_same _ _ (row_same g s left) rows
              ∙ event-mails here h left number topic 0 rows (λ m. let q : 0 + m ≡ m = omega arith in rw q)));
        }
