-- The book's searches of its places find what the hub's searches of its held calls find. Assumes nothing.
use Rattle.std.specs.Prelude.{Some, Option}
use Prim.Native.Nat.{ℕ, suc, ◌+◌}
use mathlib.Core.Path.{◌≡◌, refl, sym, ◌∙◌}
use mathlib.Core.Bool.{true, false, not}
use mathlib.Core.List.{List, [], ◌∷◌, map}
use native.Mathlib.Omega.{arith}
use lib.ListN.{length, get_or}
use lib.Dec.{eqb}
use borrow.Author.Tests.{eqb-true, eqb-false}
use Rattle.seq.specs.Lists.{first, first_from, on_found, All}
use Rattle.seq.proofs.Logic.{split, clash, and_left, and_right}
use Rattle.seq.proofs.Rules.{all-at, pairs-at}
use Rattle.model.specs.declared.HeldCall.{HeldCall}
use Rattle.model.specs.declared.Hub.{Hub}
use Rattle.model.specs.State.{no_call, idle, serves, call_at}
use Rattle.model.specs.Rules.{OpenAt, JoinedCall, CallsApart, Lawful}
use Rattle.model.specs.Book.{Book, Place, no_place, names, vacant, lowest, awaits, lookup}
use Rattle.model.specs.Run.{place_of}
use Rattle.model.proofs.Calls.{no-call-apart, apart-sym}
use Rattle.model.proofs.Fit.{Unique}
use Rattle.model.proofs.Places.{vacant-no, awaits-vacant}
use Rattle.model.proofs.Matches.{Matches, Joined, placed, place-idle, place-held, place-at, idle-no, open-named, name-eqb}

pub vacant-idle : (ν : ℕ → ℕ) (c : HeldCall) → vacant (place_of ν c) ≡ idle c
unfolding idle vacant
vacant-idle ν c =
    split (idle c)
    (λ f. rw (place-idle ν c f) (sym f))
    (λ f. rw (place-held ν c f))

-- the place a search found, or how many there are
abbrev place_found : Option ℕ → ℕ → ℕ
place_found f n = on_found f (λ k. k) n

lowest-from : (ν : ℕ → ℕ) (l : List HeldCall) (i : ℕ) → i + lowest (map (place_of ν) l) ≡ place_found (first_from idle i l) (i + length l)
unfolding lowest first_from
lowest-from ν [] i = refl
lowest-from ν (c ∷ cs) i =
    split (idle c)
    (λ t. rw (vacant-idle ν c, t) (omega arith))
    (λ t.
    let e : i + suc (lowest (map (place_of ν) cs)) ≡ suc i + lowest (map (place_of ν) cs) = omega arith in
    let n : i + suc (length cs) ≡ suc i + length cs = omega arith in
    rw (vacant-idle ν c, t, e, n) (lowest-from ν cs (suc i)))

-- the lowest empty place is the first unused row
pub lowest-first : (ν : ℕ → ℕ) (l : List HeldCall) (k : ℕ) → first idle l ≡ Some k → lowest (map (place_of ν) l) ≡ k
lowest-first ν l k e = let q : 0 + lowest (map (place_of ν) l) ≡ k = rw e at (lowest-from ν l 0) in omega arith

-- ---- the call that a callee answers
pub serves-idle : (i v : ℕ) (c : HeldCall) → idle c ≡ true → serves i v c ≡ false
unfolding serves
serves-idle i v c f = rw f

pub serves-held : (i v : ℕ) (c : HeldCall) → serves i v c ≡ true → idle c ≡ false
serves-held i v c e = split (idle c) (λ f. clash e (serves-idle i v c f)) (λ f. f)

pub awaits-callee : (e v : ℕ) (p : Place) → awaits e v p ≡ true → p.callee ≡ e
unfolding awaits
awaits-callee e v p t =
    eqb-true p.callee e (and_left (eqb p.callee e) (eqb p.invocation v) (and_right (not (vacant p)) _ t))

pub awaits-number : (e v : ℕ) (p : Place) → awaits e v p ≡ true → p.invocation ≡ v
unfolding awaits
awaits-number e v p t =
    eqb-true p.invocation v (and_right (eqb p.callee e) (eqb p.invocation v) (and_right (not (vacant p)) _ t))

module _ (h : Hub) (b : Book) (m : Matches h b) (i : ℕ) (o : OpenAt h i) (v : ℕ) where
  serves-joined : (c : HeldCall) → JoinedCall h c → awaits (names b.entrants i) v (placed (names b.entrants) c) ≡ serves i v c
  unfolding serves idle awaits vacant
  serves-joined c k = rw (name-eqb h b m c.callee i k.serving o)

  serves-place : (c : HeldCall) → Joined h c → awaits (names b.entrants i) v (place_of (names b.entrants) c) ≡ serves i v c
  serves-place c k =
      split (idle c)
      (λ f. rw (place-idle (names b.entrants) c f, serves-idle i v c f) (awaits-vacant _ v no_place vacant-no))
      (λ f. rw (place-held (names b.entrants) c f) (serves-joined c (k f)))

  lookup-from : (l : List HeldCall) (j : ℕ) → All (Joined h) l
      → j + lookup (names b.entrants i) v (map (place_of (names b.entrants)) l) ≡ place_found (first_from (serves i v) j l) (j + length l)
  unfolding lookup first_from
  lookup-from [] j k = refl
  lookup-from (c ∷ cs) j k =
      split (serves i v c)
      (λ t. rw (serves-place c k.0, t) (omega arith))
      (λ t.
      let x = lookup (names b.entrants i) v (map (place_of (names b.entrants)) cs) in
      let e : j + suc x ≡ suc j + x = omega arith in
      let n : j + suc (length cs) ≡ suc j + length cs = omega arith in
      rw (serves-place c k.0, t, e, n) (lookup-from cs (suc j) k.1))

  -- the book's look-up of the answered call finds what the hub's search finds
  pub lookup_first : All (Joined h) h.calls
      → lookup (names b.entrants i) v b.places ≡ place_found (first (serves i v) h.calls) (length h.calls)
  lookup_first k =
      let e = lookup-from h.calls 0 k in
      let n : 0 + length h.calls ≡ length h.calls = omega arith in
      let z : 0 + lookup (names b.entrants i) v (map (place_of (names b.entrants)) h.calls) ≡ lookup (names b.entrants i) v b.places =
      rw m.places (omega arith) in
      sym z ∙ rw n at e

-- ---- in a book that matches a lawful hub
module _ (h : Hub) (b : Book) (m : Matches h b) (l : Lawful h) where
  row-held : (k e v : ℕ) → awaits e v (get_or b.places k no_place) ≡ true → idle (call_at h k) ≡ false
  row-held k e v t =
      split (idle (call_at h k))
      (λ f. clash t (rw (place-at h b m k, place-idle (names b.entrants) (call_at h k) f) (awaits-vacant e v no_place vacant-no)))
      (λ f. f)

  row-awaits : (k e v : ℕ) → awaits e v (get_or b.places k no_place) ≡ true → awaits e v (placed (names b.entrants) (call_at h k)) ≡ true
  row-awaits k e v t = rw (← (place-held (names b.entrants) (call_at h k) (row-held k e v t)), ← (place-at h b m k)) t

  pub row-joined : (k : ℕ) → Joined h (call_at h k)
  row-joined k = all-at (Joined h) no_call h.calls k (λ f. clash idle-no f) l.joined

  -- no two places await one answer
  pub unique : Unique b.places
  unique j k e v s t =
      split (eqb j k)
      (λ q. eqb-true j k q)
      (λ q.
      let f = row-held j e v s in
      let g = row-held k e v t in
      let c = awaits-callee e v _ (row-awaits j e v s) ∙ sym (awaits-callee e v _ (row-awaits k e v t)) in
      let w = awaits-number e v _ (row-awaits j e v s) ∙ sym (awaits-number e v _ (row-awaits k e v t)) in
      let d = m.distinct (call_at h j).callee (call_at h k).callee (open-named h b m (call_at h j).callee (row-joined j f).serving) c in
      absurd ((pairs-at CallsApart no_call apart-sym no-call-apart h.calls l.distinct j k (eqb-false j k q)).invocations f g d w))
