-- A file that was written: its sections are read as they were, by kind, each right behind the last. Assumes nothing.
use Rattle.std.specs.Prelude.{Some}
use Prim.Native.Nat.{ℕ, zero, suc, ◌+◌, ◌*◌, ◌/◌, ◌%◌, ◌≤◌, ◌<◌, ◌^◌}
use mathlib.Core.Bool.{true, false, not}
use mathlib.Core.List.{List, [], ◌∷◌, ◌++◌, map, append_assoc, append-nil}
use mathlib.Core.Path.{◌≡◌, refl, sym, ap, subst, ◌∙◌}
use native.Mathlib.Omega.{arith}
use borrow.Author.Tests.{lt-ltb, le-ltb, eq-eqb, eqb-true, eqb-false}
use lib.Dec.{eqb, ltb}
use lib.ListN.{length, take, drop, get_or, length-append}
use lib.Seq.{take_at, drop_at, drop-cons}
use Rattle.seq.specs.Lists.{every, tally, first, All, Pairs}
use Rattle.seq.specs.BigEndian.{number, digits, cut}
use Rattle.seq.proofs.Logic.{split, clash, and_both, and-false}
use Rattle.seq.proofs.Joined.{joined-suc, joined-all, joined-parts}
use Rattle.seq.proofs.Rules.{all-every, all-below, all_map, all_append, pairs-pairwise}
use Rattle.seq.proofs.Search.{first-is, tally-only}
use Rattle.seq.proofs.BigEndian.{length_digits, number_digits}
use Rattle.seq.proofs.Holds.{Holds, holds-self, holds-left, holds-right, holds-take}
use Rattle.contents.specs.declared.Section.{Section}
use Rattle.contents.specs.Contents.{version, count, page_end, section_of, sections, end_of, inside, cut_short, shares, apart, page, parts, overlaps, of_kind, kinds_good, body_at, no_section, body_of, entry, entries, whole, packed}
use Rattle.contents.proofs.Laws.{cut-rest, is-inside, is-apart, of-kind, not-of-kind}
use Rattle.contents.proofs.Tests.{every-below}

-- the sections of bodies, from a kind and a place on
abbrev pub sections_from : ℕ → ℕ → List (List ℕ) → List Section
sections_from kind place [] = []
sections_from kind place (b ∷ bs) = record { kind = kind; place = place; len = length b } ∷ sections_from (suc kind) (place + length b) bs

pub length_from : (k p : ℕ) (bs : List (List ℕ)) → length (sections_from k p bs) ≡ length bs
length_from k p [] = refl
length_from k p (b ∷ bs) = ap suc (length_from (suc k) (p + length b) bs)

-- ---- an entry is read as it was
length-entry : (k p : ℕ) (b : List ℕ) → length (entry k p b) ≡ 9
unfolding entry
length-entry k p b =
    omega (arith, length-append (digits 4 p) (digits 4 (length b)), length_digits 4 p, length_digits 4 (length b))

number-back : (n x : ℕ) → x < 256 ^ n → number n (digits n x) ≡ x
number-back n x h = sym (ap (number n) (append-nil (digits n x))) ∙ number_digits n x [] h

pub entry-back : (k p : ℕ) (b : List ℕ) → p < 4294967296 → length b < 4294967296
    → section_of (entry k p b) ≡ record { kind = k; place = p; len = length b }
unfolding section_of entry
entry-back k p b h i =
    let e : number 4 (digits 4 p ++ digits 4 (length b)) ≡ p = number_digits 4 p (digits 4 (length b)) h in
    let d : drop 4 (digits 4 p ++ digits 4 (length b)) ≡ digits 4 (length b) = drop_at (digits 4 p) (digits 4 (length b)) 4 (length_digits 4 p) in
    let f : number 4 (digits 4 (length b)) ≡ length b = number-back 4 (length b) i in
    rw (d, e, f)

pub length-entries : (k p : ℕ) (bs : List (List ℕ)) → length (entries k p bs) ≡ length bs * 9
unfolding entries
length-entries k p [] = refl
length-entries k p (b ∷ bs) =
    omega (arith, length-append (entry k p b) (entries (suc k) (p + length b) bs), length-entry k p b, length-entries (suc k) (p + length b) bs)

-- and so are all of them, whatever follows
pub entries-back : (k p : ℕ) (bs : List (List ℕ)) (q : List ℕ) → p + length (whole bs) < 4294967296
    → map section_of (cut 9 (length bs) (entries k p bs ++ q)) ≡ sections_from k p bs
unfolding entries cut
entries-back k p [] q h = refl
entries-back k p (b ∷ bs) q h =
    let l = length-append b (whole bs) in
    let r = entries (suc k) (p + length b) bs ++ q in
    let t : take 9 (entry k p b ++ r) ≡ entry k p b = take_at (entry k p b) r 9 (length-entry k p b) in
    let d : drop 9 (entry k p b ++ r) ≡ r = drop_at (entry k p b) r 9 (length-entry k p b) in
    rw (append_assoc (entry k p b) (entries (suc k) (p + length b) bs) q, t, d, entry-back k p b (omega arith) (omega arith))
    (ap (λ l. record { kind = k; place = p; len = length b } ∷ l) (entries-back (suc k) (p + length b) bs q (omega arith)))

-- where the places fit 4 bytes
abbrev pub Fits : List (List ℕ) → Type 0
Fits bs = page_end (length bs) + length (whole bs) < 4294967296

pub sections-back : (v : ℕ) (bs : List (List ℕ)) → Fits bs → sections (packed v bs) ≡ sections_from 0 (page_end (length bs)) bs
unfolding sections packed
sections-back v bs h = entries-back 0 (page_end (length bs)) bs (whole bs) h

pub length-packed : (v : ℕ) (bs : List (List ℕ)) → length (packed v bs) ≡ page_end (length bs) + length (whole bs)
unfolding packed
length-packed v bs =
    omega (arith, length-append (entries 0 (page_end (length bs)) bs) (whole bs), length-entries 0 (page_end (length bs)) bs)

pub count-back : (v : ℕ) (bs : List (List ℕ)) → count (packed v bs) ≡ length bs
unfolding packed
count-back v bs = refl

pub version-back : (v : ℕ) (bs : List (List ℕ)) → version (packed v bs) ≡ v
unfolding packed
version-back v bs = refl

-- ---- the sections, place by place
-- how many bytes the first i bodies have
abbrev pub size_to : ℕ → List (List ℕ) → ℕ
size_to i bs = length (whole (take i bs))

pub from_at : (k p : ℕ) (bs : List (List ℕ)) (i : ℕ) → i < length bs
    → get_or (sections_from k p bs) i no_section ≡ record { kind = k + i; place = p + size_to i bs; len = length (get_or bs i []) }
from_at k p [] i h = absurd (omega arith)
from_at k p (b ∷ bs) zero h =
    let a : k + 0 ≡ k = omega arith in
    let c : p + 0 ≡ p = omega arith in
    rw (a, c)
from_at k p (b ∷ bs) (suc i) h =
    let a : k + suc i ≡ suc k + i = omega arith in
    let l = length-append b (whole (take i bs)) in
    let c : p + length (b ++ whole (take i bs)) ≡ p + length b + size_to i bs = omega arith in
    rw (a, c) (from_at (suc k) (p + length b) bs i (omega arith))

pub size-more : (bs : List (List ℕ)) (i : ℕ) → i < length bs → size_to (i + 1) bs ≡ size_to i bs + length (get_or bs i [])
size-more bs i h = ap length (joined-suc (λ (b : List ℕ). b) [] bs i h) ∙ length-append (whole (take i bs)) (get_or bs i [])

pub size-all : (bs : List (List ℕ)) → size_to (length bs) bs ≡ length (whole bs)
size-all bs = ap length (joined-all (λ (b : List ℕ). b) bs (length bs) (omega arith))

pub size_low : (bs : List (List ℕ)) (i : ℕ) → size_to i bs ≤ length (whole bs)
size_low bs i =
    let e = ap length (joined-parts (λ (b : List ℕ). b) bs i) in
    omega (arith, length-append (whole (take i bs)) (whole (drop i bs)))

-- ---- no test finds anything
-- a section that ends where the other begins, or before, shares no byte with it
behind-apart : (x y : Section) → end_of x ≤ y.place → apart x y ≡ true
unfolding shares
behind-apart x y h =
    is-apart x y
    (and-false (ltb x.place (end_of x)) _
    (and-false (ltb y.place (end_of y)) _
    (and-false (ltb x.place (end_of y)) _ (le-ltb y.place (end_of x) h))))

from-later : (a k p : ℕ) (bs : List (List ℕ)) → a ≤ p → All (λ x. a ≤ x.place) (sections_from k p bs)
from-later a k p [] h = tt
from-later a k p (b ∷ bs) h = (h, from-later a (suc k) (p + length b) bs (omega arith))

after : (x : Section) (k p : ℕ) (bs : List (List ℕ)) → end_of x ≤ p → All (λ y. apart x y ≡ true) (sections_from k p bs)
after x k p bs h =
    all_map (λ y. end_of x ≤ y.place) (λ y. apart x y ≡ true) (λ y l. behind-apart x y l) (sections_from k p bs) (from-later (end_of x) k p bs h)

from-apart : (k p : ℕ) (bs : List (List ℕ)) → Pairs (λ x y. apart x y ≡ true) (sections_from k p bs)
from-apart k p [] = tt
from-apart k p (b ∷ bs) =
    (after (record { kind = k; place = p; len = length b }) (suc k) (p + length b) bs (omega arith), from-apart (suc k) (p + length b) bs)

-- ---- the sections of a written file, and what is read of it
module _ (v : ℕ) (bs : List (List ℕ)) (fits : Fits bs) where
  pub section-back : (i : ℕ) → i < length bs
      → get_or (sections (packed v bs)) i no_section ≡ record { kind = i; place = page_end (length bs) + size_to i bs; len = length (get_or bs i []) }
  section-back i h =
      let e : 0 + i ≡ i = omega arith in
      rw (sections-back v bs fits) (from_at 0 (page_end (length bs)) bs i h ∙ rw e)

  pub length_back : length (sections (packed v bs)) ≡ length bs
  length_back = ap length (sections-back v bs fits) ∙ length_from 0 (page_end (length bs)) bs

  pub kind-back : (i : ℕ) → i < length bs → (get_or (sections (packed v bs)) i no_section).kind ≡ i
  kind-back i h = rw (section-back i h)

  -- where the section ends: behind its own body
  pub end_back : (i : ℕ) → i < length bs → end_of (get_or (sections (packed v bs)) i no_section) ≡ page_end (length bs) + size_to (i + 1) bs
  end_back i h = rw (section-back i h) (omega (arith, size-more bs i h))

  pub next-back : (i : ℕ) → i + 1 < length bs
      → (get_or (sections (packed v bs)) (i + 1) no_section).place ≡ end_of (get_or (sections (packed v bs)) i no_section)
  next-back i h = rw (end_back i (omega arith), section-back (i + 1) h)

  pub last-back : (i : ℕ) → i + 1 ≡ length bs → end_of (get_or (sections (packed v bs)) i no_section) ≡ length (packed v bs)
  last-back i e = end_back i (omega arith) ∙ (ap (λ n. page_end (length bs) + size_to n bs) e ∙ omega (arith, size-all bs, length-packed v bs))

  pub whole_back : cut_short (packed v bs) ≡ false
  whole_back =
      cut-rest (packed v bs) page-in
      ∙ ap not (all-every (inside (packed v bs)) (sections (packed v bs)) (all-below (λ x. inside (packed v bs) x ≡ true) no_section (sections (packed v bs)) section-in))
    where
      page-in : page_end (count (packed v bs)) ≤ length (packed v bs)
      page-in = rw (count-back v bs) (omega (arith, length-packed v bs))

      section-in : (i : ℕ) → i < length (sections (packed v bs)) → inside (packed v bs) (get_or (sections (packed v bs)) i no_section) ≡ true
      section-in i h =
          let e = end_back i (omega (arith, length_back)) in
          is-inside (packed v bs) _ (λ l. omega (arith, size_low bs (i + 1), length-packed v bs))

  pub apart-back : overlaps (packed v bs) ≡ false
  unfolding overlaps parts page
  apart-back =
      let c = count-back v bs in
      ap not
      (pairs-pairwise apart (parts (packed v bs))
      (rw (sections-back v bs fits)
      (after (page (packed v bs)) 0 (page_end (length bs)) bs (omega arith), from-apart 0 (page_end (length bs)) bs)))

  -- the section of a kind is the one at that place, and no other
  only : (k : ℕ) → k < length bs → of_kind k (get_or (sections (packed v bs)) k no_section) ≡ true
  only k h = of-kind k _ (kind-back k h)

  none : (k j : ℕ) → j < length bs → (j ≡ k → ⊥) → of_kind k (get_or (sections (packed v bs)) j no_section) ≡ false
  none k j h n = not-of-kind k _ (λ e. n (sym (kind-back j h) ∙ e))

  pub kinds-back : kinds_good (length bs) (packed v bs) ≡ true
  unfolding kinds_good
  kinds-back =
      and_both
      (all-every (λ x. ltb x.kind (length bs)) (sections (packed v bs))
      (all-below (λ x. ltb x.kind (length bs) ≡ true) no_section (sections (packed v bs))
      (λ i h. let l : i < length bs = omega (arith, length_back) in lt-ltb (get_or (sections (packed v bs)) i no_section).kind (length bs) (rw (kind-back i l) l))))
      (every-below (λ k. eqb (tally (of_kind k) (sections (packed v bs))) 1) (length bs)
      (λ k h.
      eq-eqb _ 1
      (tally-only (of_kind k) no_section (sections (packed v bs)) k (omega (arith, length_back)) (only k h)
      (λ j m t. split (eqb j k) (λ e. eqb-true j k e) (λ e. clash t (none k j (omega (arith, length_back)) (eqb-false j k e)))))))

  pub first_back : (k : ℕ) → k < length bs → first (of_kind k) (sections (packed v bs)) ≡ Some k
  first_back k h =
      first-is (of_kind k) no_section (sections (packed v bs)) k (omega (arith, length_back)) (only k h)
      (λ j l. none k j (omega arith) (λ e. omega arith))

-- ---- the bodies
-- those from a place on stand in the file
holds-bodies : (v : ℕ) (bs : List (List ℕ)) → Holds (packed v bs) (page_end (length bs)) (whole bs)
unfolding packed
holds-bodies v bs =
    let es = entries 0 (page_end (length bs)) bs in
    let e : 0 + length (v ∷ length bs ∷ es) ≡ page_end (length bs) = omega (arith, length-entries 0 (page_end (length bs)) bs) in
    subst (λ n. Holds (packed v bs) n (whole bs)) e (holds-right (packed v bs) 0 (v ∷ length bs ∷ es) (whole bs) (holds-self (packed v bs)))

whole-at : (bs : List (List ℕ)) (k : ℕ) → k < length bs → whole bs ≡ whole (take k bs) ++ (get_or bs k [] ++ whole (drop (suc k) bs))
whole-at bs k h = sym (joined-parts (λ (b : List ℕ). b) bs k) ∙ ap (λ l. whole (take k bs) ++ whole l) (drop-cons bs k [] h)

pub holds-body : (v : ℕ) (bs : List (List ℕ)) (k : ℕ) → k < length bs → Holds (packed v bs) (page_end (length bs) + size_to k bs) (get_or bs k [])
holds-body v bs k h =
    let w = whole (drop (suc k) bs) in
    let all = subst (λ l. Holds (packed v bs) (page_end (length bs)) l) (whole-at bs k h) (holds-bodies v bs) in
    holds-left (packed v bs) _ (get_or bs k []) w (holds-right (packed v bs) _ (whole (take k bs)) (get_or bs k [] ++ w) all)

pub body_back : (v : ℕ) (bs : List (List ℕ)) → Fits bs → (k : ℕ) → k < length bs → body_of k (packed v bs) ≡ get_or bs k []
unfolding body_of body_at
body_back v bs fits k h = rw (first_back v bs fits k h, section-back v bs fits k h) (holds-take (packed v bs) _ (get_or bs k []) (holds-body v bs k h))

-- ---- every number of it is a byte
digits-bytes : (n x : ℕ) → All (λ b. b < 256) (digits n x)
unfolding digits
digits-bytes zero x = tt
digits-bytes (suc n) x = all_append (λ b. b < 256) (digits n (x / 256)) (x % 256 ∷ []) (digits-bytes n (x / 256)) (omega arith, tt)

entries-bytes : (k p : ℕ) (bs : List (List ℕ)) → k + length bs ≤ 256 → All (λ b. b < 256) (entries k p bs)
unfolding entries entry
entries-bytes k p [] h = tt
entries-bytes k p (b ∷ bs) h =
    all_append (λ b. b < 256) (entry k p b) (entries (suc k) (p + length b) bs)
    (omega arith, all_append (λ b. b < 256) (digits 4 p) (digits 4 (length b)) (digits-bytes 4 p) (digits-bytes 4 (length b)))
    (entries-bytes (suc k) (p + length b) bs (omega arith))

whole-bytes : (bs : List (List ℕ)) → All (All (λ b. b < 256)) bs → All (λ b. b < 256) (whole bs)
whole-bytes [] h = tt
whole-bytes (b ∷ bs) h = all_append (λ b. b < 256) b (whole bs) h.0 (whole-bytes bs h.1)

pub packed-bytes : (v : ℕ) (bs : List (List ℕ)) → v < 256 → length bs < 256 → All (All (λ b. b < 256)) bs → All (λ b. b < 256) (packed v bs)
unfolding packed
packed-bytes v bs h i j = (
  h,
  (
    i,
    all_append (λ b. b < 256) (entries 0 (page_end (length bs)) bs) (whole bs) (entries-bytes 0 (page_end (length bs)) bs (omega arith)) (whole-bytes bs j),
  ),
)
