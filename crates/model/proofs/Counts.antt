-- Each CALL taken in is replied to once, or held, or was held when its caller's session ended; and a number is taken in at most once in a
-- session. Per entry of the book, then over a list of steps that fit (proofs/Fit.antt).
-- Assumes nothing.
use Prim.Native.Nat.{ℕ, suc, ◌+◌, ◌<◌, ◌≤◌}
use mathlib.Core.Path.{◌≡◌, refl, sym, ◌∙◌, ap}
use mathlib.Core.Bool.{Bool, true, false, not, cond, ◌&&◌}
use mathlib.Core.List.{List, [], ◌∷◌, map}
use native.Mathlib.Omega.{arith}
use borrow.Author.Tests.{eqb-true, eqb-false, eq-eqb, ne_eqb, lt-ltb, le-ltb, ltb-true, ltb-false}
use lib.Dec.{eqb, ltb}
use lib.ListN.{length, get_or}
use Rattle.seq.specs.Bytes.{chars}
use Rattle.seq.specs.Lists.{bit, tally, Both}
use Rattle.seq.proofs.Logic.{split, clash, and_left, and_right, cond_same}
use Rattle.seq.proofs.Search.{tally-set, tally-none, tally-most, tally-keep}
use Rattle.seq.specs.declared.Format.{Format}
use Rattle.outgoing.specs.Outgoing.{Answer, Failure}
use Rattle.outgoing.specs.Layout.{Mail}
use Rattle.model.specs.Book as Book
use Rattle.model.specs.Book.{Book, Entrant, nobody, Place, no_place, Due, due, Entry, Chosen, none, chosen, names, entrant, format_in, vacant, lowest, lookup, involves, without, served_for, invocation_in, replies_in, with_format, with_entrant, with_place, nothing, cancels_owed, over, asked, invoked, called, settled, tick, empty_book}
use Rattle.model.specs.Run.{Given, Fed, Meets, entry, sent_in, book_after, fed_by, is_for, is_held, held_now, total, replies_to, taken_at, taken_in, ended_by, lost_at, lost_in, Answered}
use Rattle.model.specs.Demands.{Counted}
use Rattle.model.proofs.Fit.{Roomy, Fit, AllFit}
use Rattle.model.proofs.Places.{vacant-no, served-used, awaits-used, lowest-vacant, lookup-awaits, without_in, without-out, names-gone, asked-names, invoked-names, named-inside, ended-kept, ended-unnamed, ended-gone}
use Rattle.model.proofs.Entries.{Entered, idle, attached, opens, ends, asks, calls, answers, entered}

-- ---- a place and the calls counted
pub held-vacant : (c n : ℕ) (p : Place) → vacant p ≡ true → is_held c n p ≡ false
unfolding is_held
held-vacant c n p f = rw f

held-used : (c n : ℕ) (p : Place) → is_held c n p ≡ true → vacant p ≡ false
held-used c n p t = split (vacant p) (λ f. clash t (held-vacant c n p f)) (λ f. f)

held-caller : (c n : ℕ) (p : Place) → is_held c n p ≡ true → p.caller ≡ c
unfolding is_held
held-caller c n p t = eqb-true p.caller c (and_left (eqb p.caller c) _ (and_right (not (vacant p)) _ t))

-- a reply to a held call is counted as the call is
pub due-held : (c n : ℕ) (p : Place) (f : Format) (a : Answer) → vacant p ≡ false → is_for c n (due p.caller p.request f a) ≡ is_held c n p
unfolding is_for is_held
due-held c n p w a f = rw f

-- ---- a used place at a session's end, by whether the session is its caller or its callee
module _ (e : ℕ) (p : Place) (f : vacant p ≡ false) where
  own_in : p.caller ≡ e → involves e p ≡ true
  unfolding involves
  own_in q = rw (f, eq-eqb p.caller e q)

  own-unserved : p.caller ≡ e → served_for e p ≡ false
  unfolding served_for
  own-unserved q = rw (f, eq-eqb p.caller e q) (split (eqb p.callee e) (λ u. rw u) (λ u. rw u))

  pub other-in : eqb p.caller e ≡ false → involves e p ≡ eqb p.callee e
  unfolding involves
  other-in t = rw (f, t)

  pub other-served : eqb p.caller e ≡ false → served_for e p ≡ eqb p.callee e
  unfolding served_for
  other-served t = rw (f, t) (split (eqb p.callee e) (λ u. rw u) (λ u. rw u))

cond-add : (t : Bool) (x y : ℕ) → cond t (x + y) 0 ≡ cond t x 0 + cond t y 0
cond-add true x y = refl
cond-add false x y = refl

module _ (c n : ℕ) where
  H : Place → ℕ
  H p = bit (is_held c n p)

  H-none : H no_place ≡ 0
  unfolding H
  H-none = rw (held-vacant c n no_place vacant-no)

  -- one place at a session's end: replied to, kept, or lost
  place-split : (e : ℕ) (p : Place) → cond (served_for e p) (H p) 0 + H (without e p) + cond (eqb e c) (H p) 0 ≡ H p
  place-split e p = split (is_held c n p) counted uncounted
    where
      uncounted : is_held c n p ≡ false → cond (served_for e p) (H p) 0 + H (without e p) + cond (eqb e c) (H p) 0 ≡ H p
      uncounted g =
          let z : H p ≡ 0 = unfold H in rw g in
          let k : H (without e p) ≡ 0 = split (involves e p) (λ t. rw (without_in e p t) H-none) (λ t. rw (without-out e p t) z) in
          rw (z, k, cond_same (served_for e p), cond_same (eqb e c))

      counted : is_held c n p ≡ true → cond (served_for e p) (H p) 0 + H (without e p) + cond (eqb e c) (H p) 0 ≡ H p
      counted g =
          let f = held-used c n p g in
          let q = held-caller c n p g in
          let one : H p ≡ 1 = unfold H in rw g in
          split (eqb e c)
          (λ t. let w = q ∙ sym (eqb-true e c t) in rw (t, own-unserved e p f w, without_in e p (own_in e p f w), one, H-none))
          (λ t.
          let w : eqb p.caller e ≡ false = ne_eqb _ _ (λ x. eqb-false e c t (sym x ∙ q)) in
          split (eqb p.callee e)
          (λ u. rw (t, other-served e p f w, u, without_in e p (other-in e p f w ∙ u), one, H-none))
          (λ u. rw (t, other-served e p f w, u, without-out e p (other-in e p f w ∙ u), one)))

  -- a session's end: what it owes, what it keeps and what it loses make up what was held
  end-split : (f : Format) (e : ℕ) (ps : List Place)
      → tally (is_for c n) (cancels_owed f e ps) + tally (is_held c n) (map (without e) ps) + cond (eqb e c) (tally (is_held c n) ps) 0
      ≡ tally (is_held c n) ps
  unfolding tally cancels_owed H
  end-split f e [] = rw cond_same
  end-split f e (p ∷ ps) =
      let ih = end-split f e ps in
      let one = place-split e p in
      let s = cond-add (eqb e c) (bit (is_held c n p)) (tally (is_held c n) ps) in
      split (served_for e p)
      (λ t.
      let one' : bit (is_held c n p) + bit (is_held c n (without e p)) + cond (eqb e c) (bit (is_held c n p)) 0 ≡ bit (is_held c n p) = rw t at one in
      rw (t, due-held c n p f (Failure (chars "wamp.error.canceled") []) (served-used e p t)) (omega arith))
      (λ t.
      let one' : 0 + bit (is_held c n (without e p)) + cond (eqb e c) (bit (is_held c n p)) 0 ≡ bit (is_held c n p) = rw t at one in
      rw t (omega arith))

-- ---- what is sent is counted as what is owed
pub paid-counts : (c n : ℕ) (owed sent : List Due) → Both Meets owed sent → tally (is_for c n) sent ≡ tally (is_for c n) owed
unfolding tally is_for
paid-counts c n [] [] m = refl
paid-counts c n [] (d ∷ ds) m = absurd m
paid-counts c n (o ∷ os) [] m = absurd m
paid-counts c n (o ∷ os) (d ∷ ds) m = rw (m.0.session, m.0.request, paid-counts c n os ds m.1)

-- ---- conservation
-- One entry of the book: what is owed, held after and lost makes up what is taken in and held before.
module _ (c n : ℕ) (c1 : 0 < c) where
  unfoldable Balanced : Book → ℕ → Entry → ℕ → Type 0
  Balanced b i e taken = tally (is_for c n) e.owed + held_now c n e.book + lost_at c n b e.book i ≡ taken + held_now c n b

  -- nothing is lost where no session ends
  lost-none : (b b' : Book) (i : ℕ) → ended_by b b' i ≡ 0 → lost_at c n b b' i ≡ 0
  unfolding lost_at
  lost-none b b' i z = rw (z, ne_eqb 0 c (λ q. omega arith))

  -- no call moves
  still : (b b' : Book) (i : ℕ) → b'.places ≡ b.places → ended_by b b' i ≡ 0 → Balanced b i (nothing b') 0
  unfolding Balanced nothing tally held_now
  still b b' i p z = let e = ap (tally (is_held c n)) p in let l = lost-none b b' i z in omega arith

  over-balanced : (b : Book) (i : ℕ) → Balanced b i (over b i) 0
  unfolding Balanced over entrant lost_at held_now
  over-balanced b i =
      let e = end-split c n (format_in b i) (names b.entrants i) b.places in
      rw (ended-gone b (over b i).book i (names-gone b.entrants i)) (unfold held_now in omega arith)

  new-held : (b : Book) (i m k v : ℕ) → 0 < m
      → is_held c n (record { caller = names (asked b i m).entrants i; request = m; callee = k; invocation = v })
      ≡ (eqb (names b.entrants i) c && eqb m n)
  unfolding is_held vacant
  new-held b i m k v pos = rw (asked-names b i m i, ne_eqb m 0 (λ z. omega arith))

  -- a CALL taken in is owed an error, or takes an empty place
  called-balanced : (b : Book) (i m : ℕ) (ms : List Mail) (ch : Chosen) → 0 < m → Roomy b.places ch
      → Balanced b i (called (asked b i m) i m ms ch) (bit (eqb (names b.entrants i) c && eqb m n))
  unfolding Balanced called tally held_now entrant is_for nothing with_place invoked with_entrant asked
  called-balanced b i m ms none pos room =
      let l = lost-none b (asked b i m) i (ended-kept b (asked b i m) i (asked-names b i m i)) in
      let w = ap (λ x. bit (eqb x c && eqb m n)) (asked-names b i m i) in
      omega arith
  called-balanced b i m ms (chosen k v) pos room =
      let new : Place = record { caller = names (asked b i m).entrants i; request = m; callee = names (asked b i m).entrants k; invocation = v } in
      let b' = (called (asked b i m) i m ms (chosen k v)).book in
      let l = lost-none b b' i (ended-kept b b' i (invoked-names (asked b i m) k v i ∙ asked-names b i m i)) in
      let e = tally-set (is_held c n) no_place b.places (lowest b.places) new room in
      let z = ap bit (held-vacant c n _ (lowest-vacant b.places room)) in
      let w = ap bit (new-held b i m (names (asked b i m).entrants k) v pos) in
      omega arith

  -- an answer empties its place
  settled-balanced : (b : Book) (i k : ℕ) (w : Format) (a : Answer) → k < length b.places → vacant (get_or b.places k no_place) ≡ false
      → Balanced b i (settled b k w a) 0
  unfolding Balanced settled with_place tally held_now
  settled-balanced b i k w a h f =
      let l = lost-none b (settled b k w a).book i (ended-kept b _ i refl) in
      let e = tally-set (is_held c n) no_place b.places k no_place h in
      let z = ap bit (held-vacant c n no_place vacant-no) in
      let d = ap bit (due-held c n (get_or b.places k no_place) w a f) in
      omega arith

  answers-balanced : (b : Book) (i v : ℕ) (a : Answer) → Balanced b i (Book.answers b i v a) 0
  unfolding Book.answers entrant
  answers-balanced b i v a =
      let e = names b.entrants i in
      let k = lookup e v b.places in
      split (ltb k (length b.places))
      (λ t. let h = ltb-true _ _ t in rw t (settled-balanced b i k (format_in b i) a h (awaits-used e v _ (lookup-awaits e v b.places h))))
      (λ t. rw t (still b b i refl (ended-kept b b i refl)))

  balanced : {p : Place} {b : Book} {i : ℕ} {ms : List Mail} {e : Entry} {t : ℕ} {a : Answered}
      → Entered c n p b i ms e t a → Roomy b.places (invocation_in ms) → Balanced b i e t
  balanced {b = b} {i = i} idle room = still b b i refl (ended-kept b b i refl)
  balanced {b = b} {i = i} (attached f) room = still b _ i (unfold with_format in refl) (ended-kept b _ i (unfold with_format in refl))
  balanced {b = b} {i = i} (opens z) room = still b _ i (unfold with_entrant in refl) (ended-unnamed b _ i z)
  balanced {b = b} {i = i} (ends pos) room = over-balanced b i
  balanced {b = b} {i = i} (asks m pos q) room = still b _ i (unfold asked with_entrant in refl) (ended-kept b _ i (asked-names b i m i))
  balanced {b = b} {i = i} {ms = ms} (calls m pos q) room = called-balanced b i m ms (invocation_in ms) (omega arith) room
  balanced {b = b} {i = i} (answers v a) room = answers-balanced b i v a

  entry-balanced : (b : Book) (f : Fed) → Fit b f → Balanced b f.input.slot (entry b f) (taken_at c n b f.input f.refusal)
  unfolding entry Balanced held_now lost_at ended_by tick
  entry-balanced b f fit = balanced (entered c n no_place c1 b f.input f.refusal f.mails) fit.roomy

  -- over a list of steps: what is sent, held after and lost makes up what is taken in and held before
  pub conserved : (b : Book) (fs : List Fed) → AllFit b fs
      → replies_to c n b fs + held_now c n (book_after b fs) + lost_in c n b fs ≡ taken_in c n b fs + held_now c n b
  unfolding replies_to total sent_in book_after lost_in taken_in Balanced
  conserved b [] fit = omega arith
  conserved b (f ∷ fs) fit =
      let e = entry-balanced b f (fit.0) in
      let p = paid-counts c n (entry b f).owed (replies_in b f.mails) (fit.0).paid in
      let r = conserved (entry b f).book fs (fit.1) in
      omega arith

-- ---- at most once
-- How often a CALL of session c under number n can still be taken in, by what the book keeps: a quota that falls with each.
module _ (c n : ℕ) (c1 : 0 < c) where
  waits : Entrant → Bool
  waits e = eqb e.name c && ltb e.request n

  W : Book → ℕ
  W b = tally waits b.entrants

  record Once (b : Book) (e : Entry) (taken : ℕ) : Type 0 where
    now : e.book.now ≡ b.now
    once : taken + W e.book ≤ W b + bit (eqb b.now c)

  no-waits : waits nobody ≡ false
  unfolding waits
  no-waits = rw (ne_eqb 0 c (λ z. omega arith))

  once-nothing : (b : Book) → Once b (nothing b) 0
  unfolding nothing
  once-nothing b = record { now = refl; once = omega arith }

  once-attached : (b : Book) (i : ℕ) (f : Format) → Once b (nothing (with_format b i f)) 0
  unfolding nothing with_format W
  once-attached b i f = record { now = refl; once = omega arith }

  -- the session that opens is the one named by this step
  once-opens : (b : Book) (i : ℕ) → Once b (nothing (with_entrant b i (record { name = b.now; request = 0; invocation = 0 }))) 0
  unfolding nothing with_entrant W waits
  once-opens b i =
      let e = tally-most waits b.entrants i (record { name = b.now; request = 0; invocation = 0 }) in
      let k : bit (eqb b.now c && ltb 0 n) ≤ bit (eqb b.now c) =
      split (eqb b.now c) (λ t. rw t (split (ltb 0 n) (λ u. rw u (omega arith)) (λ u. rw u (omega arith)))) (λ t. rw t (omega arith)) in
      record { now = refl; once = omega arith }

  once-over : (b : Book) (i : ℕ) → Once b (over b i) 0
  unfolding over W
  once-over b i =
      let e = tally-most waits b.entrants i nobody in
      let z = ap bit no-waits in
      record { now = refl; once = omega arith }

  -- one number more: the number taken is the one that waited
  next-waits : (name r m : ℕ) → m ≡ suc r → bit (eqb name c && eqb m n) + bit (eqb name c && ltb m n) ≤ bit (eqb name c && ltb r n)
  next-waits name r m e =
      split (eqb name c)
      (λ t. rw t
      (split (eqb m n)
      (λ u. let q = eqb-true m n u in rw (u, le-ltb m n (omega arith), lt-ltb r n (omega arith)) (omega arith))
      (λ u. rw u
      (split (ltb m n)
      (λ v. let q = ltb-true m n v in rw (v, lt-ltb r n (omega arith)) (omega arith))
      (λ v. rw v (omega arith))))))
      (λ t. rw t (omega arith))

  asked-waits : (b : Book) (i m : ℕ) → 0 < names b.entrants i → m ≡ suc (entrant b i).request
      → bit (eqb (names b.entrants i) c && eqb m n) + W (asked b i m) ≤ W b
  unfolding asked with_entrant entrant W waits
  asked-waits b i m pos q =
      let e : Entrant = record { name = names b.entrants i; request = m; invocation = (get_or b.entrants i nobody).invocation } in
      let t = tally-set waits nobody b.entrants i e (named-inside b.entrants i pos) in
      let k = next-waits (names b.entrants i) (get_or b.entrants i nobody).request m q in
      omega arith

  once_asks : (b : Book) (i m : ℕ) → 0 < names b.entrants i → m ≡ suc (entrant b i).request → Once b (nothing (asked b i m)) 0
  once_asks b i m pos q =
      let k = asked-waits b i m pos q in
      record { now = unfold nothing asked with_entrant in refl; once = unfold nothing in omega arith }

  invoked-waits : (b : Book) (k v : ℕ) → W (invoked b k v) ≡ W b
  unfolding invoked with_entrant entrant W waits
  invoked-waits b k v = tally-keep waits nobody b.entrants k _ refl

  place-waits : (b : Book) (k : ℕ) (p : Place) → W (with_place b k p) ≡ W b
  unfolding with_place W
  place-waits b k p = refl

  once-calls : (b : Book) (i m : ℕ) (ms : List Mail) (ch : Chosen) → 0 < names b.entrants i → m ≡ suc (entrant b i).request
      → Once b (called (asked b i m) i m ms ch) (bit (eqb (names b.entrants i) c && eqb m n))
  unfolding called nothing
  once-calls b i m ms none pos q = let k = asked-waits b i m pos q in record { now = unfold asked with_entrant in refl; once = omega arith }
  once-calls b i m ms (chosen d v) pos q =
      let k = asked-waits b i m pos q in
      let j = invoked-waits (asked b i m) d v in
      record { now = unfold asked with_entrant invoked with_place in refl; once = simp place-waits (omega arith) }

  once-answers : (b : Book) (i v : ℕ) (a : Answer) → Once b (Book.answers b i v a) 0
  unfolding Book.answers settled
  once-answers b i v a =
      let k = lookup (entrant b i).name v b.places in
      split (ltb k (length b.places))
      (λ t. rw t (record { now = unfold with_place in refl; once = omega (arith, place-waits b k no_place) }))
      (λ t. rw t (once-nothing b))

  once-entered : {p : Place} {b : Book} {i : ℕ} {ms : List Mail} {e : Entry} {t : ℕ} {a : Answered} → Entered c n p b i ms e t a → Once b e t
  once-entered {b = b} idle = once-nothing b
  once-entered {b = b} {i = i} (attached f) = once-attached b i f
  once-entered {b = b} {i = i} (opens z) = once-opens b i
  once-entered {b = b} {i = i} (ends pos) = once-over b i
  once-entered {b = b} {i = i} (asks m pos q) = once_asks b i m pos q
  once-entered {b = b} {i = i} {ms = ms} (calls m pos q) = once-calls b i m ms (invocation_in ms) pos q
  once-entered {b = b} {i = i} (answers v a) = once-answers b i v a

  quota : Book → ℕ
  quota b = W b + bit (ltb b.now c)

  -- the sessions still to be named: this step's name is the next
  next-name : (k : ℕ) → bit (ltb (suc k) c) + bit (eqb (suc k) c) ≡ bit (ltb k c)
  next-name k =
      split (eqb (suc k) c)
      (λ t. let q = eqb-true (suc k) c t in rw (t, le-ltb (suc k) c (omega arith), lt-ltb k c (omega arith)))
      (λ t. rw t (split (ltb k c)
      (λ u. let q = ltb-true k c u in let z = eqb-false (suc k) c t in rw (u, lt-ltb (suc k) c (omega (arith, z))))
      (λ u. let q = ltb-false k c u in rw (u, le-ltb (suc k) c (omega arith)))))

  quota-falls : (b : Book) (f : Fed) → taken_at c n b f.input f.refusal + quota (entry b f).book ≤ quota b
  unfolding entry quota
  quota-falls b f =
      let k = once-entered (entered c n no_place c1 b f.input f.refusal f.mails) in
      let w : W (tick b) ≡ W b = unfold W tick in refl in
      let s : (tick b).now ≡ suc b.now = unfold tick in refl in
      let d = ap (λ x. bit (ltb x c)) (k.now ∙ s) in
      let g = ap (λ x. bit (eqb x c)) s in
      let m = next-name b.now in
      omega arith

  -- an entry is one step more
  pub now-next : (b : Book) (f : Fed) → (entry b f).book.now ≡ suc b.now
  unfolding entry tick
  now-next b f = (once-entered (entered c n no_place c1 b f.input f.refusal f.mails)).now

  taken-quota : (b : Book) (fs : List Fed) → taken_in c n b fs ≤ quota b
  unfolding taken_in
  taken-quota b [] = omega arith
  taken-quota b (f ∷ fs) = let k = quota-falls b f in let r = taken-quota (entry b f).book fs in omega arith

  -- a number is taken in at most once in a session
  pub taken-once : (fs : List Fed) → taken_in c n empty_book fs ≤ 1
  taken-once fs = let e = taken-quota empty_book fs in let q = empty-quota in omega arith
    where
      empty-quota : quota empty_book ≤ 1
      empty-quota =
          unfold quota W empty_book in
          let z = tally-none waits nobody 8 no-waits in
          split (ltb 0 c) (λ t. rw t (omega arith)) (λ t. rw t (omega arith))

  pub empty-held : held_now c n empty_book ≡ 0
  unfolding held_now empty_book
  empty-held = tally-none (is_held c n) no_place 32 (held-vacant c n no_place vacant-no)

-- each CALL taken in gets exactly one reply, or none while held or once its caller has gone
pub counted : (gs : List Given) → AllFit empty_book (fed_by gs) → (c n : ℕ) → 0 < c → Counted gs c n
counted gs fit c n c1 =
    let e = conserved c n c1 empty_book (fed_by gs) fit in
    let z = empty-held c n c1 in
    let q = taken-once c n c1 (fed_by gs) in
    record { once = q; none = λ a. omega arith; held = λ a. omega arith; lost = λ a. omega arith; answered = λ a b d. omega arith }
