-- Over a whole list of steps that fit (proofs/Fit.antt): a routed call is held exactly until a step settles it, and that step sends its reply.
-- A call that was settled never comes back: its reply, or its loss, is counted once and its number is taken in at most once
-- (proofs/Counts.antt).
-- Assumes nothing.
use Prim.Native.Nat.{ℕ, zero, suc, ◌+◌, ◌<◌, ◌≤◌}
use mathlib.Core.Path.{◌≡◌, refl, sym, subst, ◌∙◌}
use mathlib.Core.Logic.{inl, inr, ◌↔◌}
use mathlib.Core.Bool.{Bool, true, false}
use mathlib.Core.List.{List, [], ◌∷◌}
use native.Mathlib.Omega.{arith}
use borrow.Author.Tests.{eqb-true, eq-eqb, ltb-true, ltb-false}
use lib.Dec.{eqb, ltb}
use lib.ListN.{length, take}
use Rattle.seq.specs.Lists.{tally, Both}
use Rattle.seq.specs.Bytes.{chars}
use Rattle.seq.specs.declared.Format.{Format}
use Rattle.seq.proofs.Logic.{split}
use Rattle.seq.proofs.Search.{tally-some}
use Rattle.outgoing.specs.Outgoing.{Answer, Failure}
use Rattle.model.specs.declared.Hub.{Hub}
use Rattle.model.specs.State.{empty_hub}
use Rattle.model.specs.Book.{Book, Place, no_place, Due, vacant, replies_in, empty_book}
use Rattle.model.specs.Run.{Given, Meets, fed, hub_after, feed, entry, book_after, sent_in, fed_by, book_at, fed_at, replies_at, result, is_for, is_held, held_now, total, replies_to, ended_by, lost_at, lost_in, Answered, Not, By, answer_at, ended_at, Settles, answers, ends, Routed, place_at, due_of, In, Unsettled, Replied}
use Rattle.model.proofs.Fit.{Fit, AllFit}
use Rattle.model.proofs.Places.{vacant-no}
use Rattle.model.proofs.Counts.{held-vacant, due-held, other-in, other-served, paid-counts, conserved, taken-once, empty-held}
use Rattle.model.proofs.Conveyed.{carries-itself}
use Rattle.model.proofs.Whole.{book_in, fed_in, book-next}
use Rattle.model.proofs.Placed.{routed-used, routed-placed}
use Rattle.model.proofs.Stays.{Kept, entry_kept, caller-named}

-- step j fits
fit_at : (h : Hub) (b : Book) (gs : List Given) (j : ℕ) → j < length gs → AllFit b (feed h gs) → Fit (book_in h b gs j) (fed_in h gs j)
unfolding book_after feed hub_after
fit_at h b [] j l fit = absurd (omega arith)
fit_at h b (g ∷ gs) zero l fit = fit.0
fit_at h b (g ∷ gs) (suc j) l fit = fit_at (result h g).hub (entry b (fed h g)).book gs j (omega arith) (fit.1)

-- so do the first j steps
fit-take : (h : Hub) (b : Book) (gs : List Given) (j : ℕ) → AllFit b (feed h gs) → AllFit b (feed h (take j gs))
unfolding feed
fit-take h b gs zero fit = tt
fit-take h b [] (suc j) fit = tt
fit-take h b (g ∷ gs) (suc j) fit = (fit.0, fit-take (result h g).hub (entry b (fed h g)).book gs j (fit.1))

-- what step m sends and loses is part of what the first j steps do
counted-at : (c n : ℕ) (h : Hub) (b : Book) (gs : List Given) (m j : ℕ) → m < j → j ≤ length gs
    → tally (is_for c n) (replies_in (book_in h b gs m) (fed_in h gs m).mails)
    + lost_at c n (book_in h b gs m) (entry (book_in h b gs m) (fed_in h gs m)).book (fed_in h gs m).input.slot
    ≤ replies_to c n b (feed h (take j gs)) + lost_in c n b (feed h (take j gs))
unfolding book_after feed hub_after replies_to total sent_in lost_in
counted-at c n h b gs m zero l k = absurd (omega arith)
counted-at c n h b [] m (suc j) l k = absurd (omega arith)
counted-at c n h b (g ∷ gs) zero (suc j) l k = omega arith
counted-at c n h b (g ∷ gs) (suc m) (suc j) l k =
    let r = counted-at c n (result h g).hub (entry b (fed h g)).book gs m j (omega arith) (omega arith) in omega arith

-- ---- the counts of a call that is held
held-self : (p : Place) → vacant p ≡ false → is_held p.caller p.request p ≡ true
unfolding is_held
held-self p u = rw (u, eq-eqb p.caller p.caller refl, eq-eqb p.request p.request refl)

-- a session's end loses every call of its own
lost-all : (c n : ℕ) (b b' : Book) (i : ℕ) → c ≡ ended_by b b' i → lost_at c n b b' i ≡ held_now c n b
unfolding lost_at
lost-all c n b b' i q = rw (eq-eqb (ended_by b b' i) c (sym q))

abbrev canceled_answer : Answer
canceled_answer = Failure (chars "wamp.error.canceled") []

tally-in : {A : Type 0} (p : A → Bool) (x : A) (l : List A) → In x l → p x ≡ true → 0 < tally p l
unfolding tally
tally-in p x [] i t = absurd i
tally-in p x (y ∷ ys) (inl e) t = rw (← e, t) (omega arith)
tally-in p x (y ∷ ys) (inr i) t = let r = tally-in p x ys i t in omega arith

not-by : (t : Answered) → ((f : Format) (a : Answer) → t ≡ By f a → ⊥) → t ≡ Not
not-by Not f = refl
not-by (By w a) f = absurd (f w a refl)

-- a reply that is owed alone is sent alone; one that is owed among others is sent among others
one-paid : (o : Due) (ds : List Due) → Both Meets (o ∷ []) ds → (d : Due) × (ds ≡ d ∷ []) × Meets o d
one-paid o [] p = absurd p
one-paid o (d ∷ []) p = (d, refl, p.0)
one-paid o (d ∷ (e ∷ ds)) p = absurd p.1

in-paid : (o : Due) (os ds : List Due) → Both Meets os ds → In o os → (d : Due) × In d ds × Meets o d
in-paid o [] [] p i = absurd i
in-paid o [] (d ∷ ds) p i = absurd i
in-paid o (x ∷ os) [] p i = absurd p
in-paid o (x ∷ os) (d ∷ ds) p (inl e) = (d, inl refl, rw e p.0)
in-paid o (x ∷ os) (d ∷ ds) p (inr i) = let (c, q, r) = in-paid o os ds p.1 i in (c, inr q, r)

-- a reply that meets canceled is canceled
canceled-paid : (p : Place) (f : Format) (d : Due) → Meets (due_of p f canceled_answer) d → due_of p d.format canceled_answer ≡ d
canceled-paid p f d m =
    let a = carries-itself f d.format canceled_answer d.answer m.answer refl in
    rw (← m.session, ← m.request, ← a)

module _ (gs : List Given) (fit : AllFit empty_book (fed_by gs)) where
  -- the replies that step m owes
  abbrev owed_at : ℕ → List Due
  owed_at m = (entry (book_at gs m) (fed_at gs m)).owed

  -- step m, with the call p at place k
  step_kept : (k : ℕ) (p : Place) (m : ℕ) → m < length gs → place_at gs m k ≡ p
      → Kept (book_at gs m) (book_at gs (suc m)) (fed_at gs m).input.slot k p (owed_at m) (answer_at (book_at gs m) (fed_at gs m) p)
  step_kept k p m l q =
      rw (book-next empty_hub empty_book gs m l) (entry_kept (book_at gs m) (fed_at gs m) k p (fit_at empty_hub empty_book gs m l fit) q)

  paid-at : (m : ℕ) → m < length gs → Both Meets (owed_at m) (replies_at gs m)
  paid-at m l = (fit_at empty_hub empty_book gs m l fit).paid

  module _ (k : ℕ) (p : Place) (u : vacant p ≡ false) where
    -- the call is counted while it is held
    held-some : (m : ℕ) → place_at gs m k ≡ p → 0 < held_now p.caller p.request (book_at gs m)
    unfolding held_now
    held-some m q =
        tally-some (is_held p.caller p.request) no_place (book_at gs m).places k
        (held-vacant p.caller p.request no_place vacant-no) (rw q (held-self p u))

    -- a reply to the call counts
    due-counts : (f : Format) (a : Answer) → is_for p.caller p.request (due_of p f a) ≡ true
    due-counts f a = due-held p.caller p.request p f a u ∙ held-self p u

    -- what is sent counts as what is owed
    sent-counts : (m : ℕ) → m < length gs → tally (is_for p.caller p.request) (replies_at gs m) ≡ tally (is_for p.caller p.request) (owed_at m)
    sent-counts m l = paid-counts p.caller p.request (owed_at m) (replies_at gs m) (paid-at m l)

    -- a step that settles the call sends it a reply, or loses it
    settled-counts : (m : ℕ) → m < length gs → place_at gs m k ≡ p → Settles gs p m
        → 0 < tally (is_for p.caller p.request) (replies_at gs m)
        + lost_at p.caller p.request (book_at gs m) (book_at gs (suc m)) (fed_at gs m).input.slot
    settled-counts m l q (answers f a e) =
        let t : 0 < tally (is_for p.caller p.request) (owed_at m) =
        rw ((step_kept k p m l q).answered f a e) (unfold tally in rw (due-counts f a) (omega arith)) in
        let s = sent-counts m l in
        omega arith
    settled-counts m l q (ends h e) =
        split (eqb p.caller (ended_at gs m))
        (λ t.
        let g = held-some m q in
        let z = lost-all p.caller p.request (book_at gs m) (book_at gs (suc m)) (fed_at gs m).input.slot (eqb-true _ _ t) in
        omega arith)
        (λ t.
        let s = other-served (ended_at gs m) p u t ∙ sym (other-in (ended_at gs m) p u t) ∙ e in
        let (f, i) = (step_kept k p m l q).canceled h s in
        let g = tally-in (is_for p.caller p.request) _ (owed_at m) i (due-counts f _) in
        let w = sent-counts m l in
        omega arith)

    -- so a call that is settled is not held again
    gone : 0 < p.caller → (m j : ℕ) → m < j → j ≤ length gs → place_at gs m k ≡ p → place_at gs j k ≡ p → Settles gs p m → ⊥
    gone c1 m j l h q r s =
        let e = conserved p.caller p.request c1 empty_book (fed_by (take j gs)) (fit-take empty_hub empty_book gs j fit) in
        let z = empty-held p.caller p.request c1 in
        let o = taken-once p.caller p.request c1 (fed_by (take j gs)) in
        let a = held-some j r in
        let t = rw (book-next empty_hub empty_book gs m (omega arith)) at (settled-counts m (omega arith) q s) in
        let w = counted-at p.caller p.request empty_hub empty_book gs m j l h in
        omega arith

  -- ---- a call routed at step i
  module _ (i k : ℕ) (p : Place) (r : Routed gs i k p) where
    is_call : vacant p ≡ false
    is_call = routed-used gs i k p r

    placed : p ≡ place_at gs (suc i) k
    placed = routed-placed gs i k p r

    -- the call at its place, as long as no step settles it there
    through : (j : ℕ) → j ≤ length gs → ((m : ℕ) → i < m → m < j → place_at gs m k ≡ p → Settles gs p m → ⊥)
        → (m : ℕ) → i < m → m ≤ j → place_at gs m k ≡ p
    through j b f zero l h = absurd (omega arith)
    through j b f (suc m) l h =
        split (ltb i m)
        (λ t.
        let g = ltb-true i m t in
        let q = through j b f m g (omega arith) in
        let s = f m g (omega arith) q in
        (step_kept k p m (omega arith) q).stays is_call (not-by _ (λ f a e. s (answers f a e))) (λ x e. s (ends x e)))
        (λ t. let e : m ≡ i = (let g = ltb-false i m t in omega arith) in rw e (sym placed))

    -- its caller has a name
    caller : 0 < p.caller
    caller = rw placed (caller-named (fed_by (take (suc i) gs)) k (rw placed at is_call))

    -- held after step j, it was settled by none before
    unsettled : (j : ℕ) → j ≤ length gs → place_at gs j k ≡ p → Unsettled gs p i j
    unsettled j b q m g h = again m h (through j b (λ x y z w. again x z w) m g (omega arith))
      where
        again : (m : ℕ) → m < j → place_at gs m k ≡ p → Settles gs p m → ⊥
        again m h w = gone k p is_call caller m j h b w q

    -- settled by none before, it is held after step j
    held : (j : ℕ) → i < j → j ≤ length gs → Unsettled gs p i j → place_at gs j k ≡ p
    held j l b f = through j b (λ m g h q. f m g h) j l (omega arith)

  -- a call routed at step i is held after step j exactly while no step between settles it
  pub until : (i j k : ℕ) (p : Place) → Routed gs i k p → i < j → j ≤ length gs → (place_at gs j k ≡ p ↔ Unsettled gs p i j)
  until i j k p r l b = (unsettled i k p r j b, held i k p r j l b)

  -- the first step that settles it sends its reply: that answer, or canceled
  pub replied : (i m k : ℕ) (p : Place) → Routed gs i k p → i < m → m < length gs → Unsettled gs p i m → Settles gs p m → Replied gs p m
  replied i m k p r l b f s =
      let x = step_kept k p m b (held i k p r m l (omega arith) f) in
      let w = paid-at m b in
      record {
        carries = λ w' a e. one-paid (due_of p w' a) (replies_at gs m) (rw (x.answered w' a e) at w);
        says =
            λ h e.
            let (f, i) = x.canceled h e in
            let (d, j, y) = in-paid _ (owed_at m) (replies_at gs m) w i in
            (d.format, subst (λ z. In z (replies_at gs m)) (sym (canceled-paid p f d y)) j);
      }
