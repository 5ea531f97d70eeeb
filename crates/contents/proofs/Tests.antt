-- Each test of a contents page passes exactly where its proposition holds. Assumes nothing.
use Prim.Native.Nat.{ℕ, zero, suc, ◌+◌, ◌<◌}
use mathlib.Core.Bool.{Bool, true, false, not}
use mathlib.Core.List.{List, [], ◌∷◌}
use mathlib.Core.Logic.{◌⊎◌, inl, inr, ◌↔◌}
use mathlib.Core.Path.{◌≡◌, refl, sym, ap, ◌∙◌}
use native.Mathlib.Decide.{dec_lt}
use native.Mathlib.Omega.{arith}
use borrow.Author.Tests.{lt-ltb, ltb-true, eqb-true, eq-eqb, ne_eqb, leb-false, not-true, not-false}
use lib.Dec.{eqb, ltb}
use lib.ListN.{length, get_or}
use Rattle.seq.specs.Lists.{every, pairwise, tally, All, Pairs, In}
use Rattle.seq.proofs.Logic.{split, clash, and_left, and_right, and_both}
use Rattle.seq.proofs.Lists.{every-gap, every-snoc, every_front, get_d_any}
use Rattle.seq.proofs.Rules.{every-all, all-every, all_in, all-inside, pairwise-pairs}
use Rattle.seq.proofs.Search.{tally-one, tally-only}
use Rattle.contents.specs.declared.Section.{Section}
use Rattle.contents.specs.Contents.{count, page_end, sections, end_of, inside, cut_short, shares, apart, parts, overlaps, of_kind, below, kinds_good, no_section}
use Rattle.contents.specs.Claims.{Within, Kinds}
use Rattle.contents.proofs.Laws.{not-inside, cut-page, cut-rest, of-kind}

-- ---- lists
-- one of a list's elements stands at each place
pub in-at : {A : Type 0} (d : A) (l : List A) (i : ℕ) → i < length l → In (get_or l i d) l
in-at d [] i h = absurd (omega arith)
in-at d (x ∷ l) zero h = inl refl
in-at d (x ∷ l) (suc i) h = inr (in-at d l i (omega arith))

all-of-in : {A : Type 0} (P : A → Type 0) (l : List A) → ((a : A) → In a l → P a) → All P l
all-of-in P [] f = tt
all-of-in P (x ∷ l) f = (f x (inl refl), all-of-in P l (λ a i. f a (inr i)))

-- where not every two elements pass, two fail
pairwise-gap : {A : Type 0} (q : A → A → Bool) (d : A) (l : List A) → pairwise q l ≡ false
    → (i : ℕ) × (j : ℕ) × (i < j) × (j < length l) × (q (get_or l i d) (get_or l j d) ≡ false)
unfolding pairwise
pairwise-gap q d [] e = clash refl e
pairwise-gap q d (x ∷ l) e =
    split (every (q x) l)
    (λ t.
    let g = pairwise-gap q d l (rw t at e) in
    let a = g.2 in
    let b = g.3 in
    (suc g.0, suc g.1, omega arith, omega arith, g.4))
    (λ t. let g = every-gap (q x) l d t in let b = g.1 in (0, suc g.0, omega arith, omega arith, g.2))

-- where all pass, any two do
pairwise-at : {A : Type 0} (q : A → A → Bool) (d : A) (l : List A) → Pairs (λ x y. q x y ≡ true) l
    → (i j : ℕ) → i < j → j < length l → q (get_or l i d) (get_or l j d) ≡ true
pairwise-at q d [] h i j a b = absurd (omega arith)
pairwise-at q d (x ∷ l) h i zero a b = absurd (omega arith)
pairwise-at q d (x ∷ l) h zero (suc j) a b = all-inside (λ y. q x y ≡ true) d l h.0 j (omega arith)
pairwise-at q d (x ∷ l) h (suc i) (suc j) a b = pairwise-at q d l h.1 i j (omega arith) (omega arith)

-- where some are counted, one passes
tally-there : {A : Type 0} (p : A → Bool) (d : A) (l : List A) → 0 < tally p l → (i : ℕ) × (i < length l) × (p (get_or l i d) ≡ true)
unfolding tally
tally-there p d [] h = absurd (omega arith)
tally-there p d (x ∷ l) h =
    split (p x)
    (λ t. (0, omega arith, t))
    (λ t.
    let k : 0 < 0 + tally p l = rw t at h in
    let g = tally-there p d l (omega arith) in
    let b = g.1 in
    (suc g.0, omega arith, g.2))

-- the numbers below n
pub every-below : (p : ℕ → Bool) (n : ℕ) → ((k : ℕ) → k < n → p k ≡ true) → every p (below n) ≡ true
unfolding every below
every-below p zero f = refl
every-below p (suc n) f = every-snoc p (below n) n (every-below p n (λ k h. f k (omega arith))) ∙ f n (omega arith)

all-below-n : (p : ℕ → Bool) (n : ℕ) → every p (below n) ≡ true → (k : ℕ) → k < n → p k ≡ true
unfolding below
all-below-n p zero e k h = absurd (omega arith)
all-below-n p (suc n) e k h =
    split (every p (below n))
    (λ t. elim (dec_lt k n) [
      | yes l ↦ all-below-n p n t k l
      | no l ↦ (let q : k ≡ n = omega arith in rw q (sym (every-snoc p (below n) n t) ∙ e))
    ])
    (λ t. clash e (every_front p (below n) (n ∷ []) t))

-- ---- a byte of both
shared-yes : (x y : Section) → shares x y ≡ true → (i : ℕ) × Within x i × Within y i
unfolding shares
shared-yes x y e =
    let a : x.place < end_of x = ltb-true _ _ (and_left (ltb x.place (end_of x)) _ e) in
    let e1 = and_right (ltb x.place (end_of x)) _ e in
    let b : y.place < end_of y = ltb-true _ _ (and_left (ltb y.place (end_of y)) _ e1) in
    let e2 = and_right (ltb y.place (end_of y)) _ e1 in
    let c : x.place < end_of y = ltb-true _ _ (and_left (ltb x.place (end_of y)) _ e2) in
    let d : y.place < end_of x = ltb-true _ _ (and_right (ltb x.place (end_of y)) _ e2) in
    elim (dec_lt x.place y.place) [
      | yes l ↦ (y.place, (omega arith, omega arith), (omega arith, omega arith))
      | no l ↦ (x.place, (omega arith, omega arith), (omega arith, omega arith))
    ]

shared-is : (x y : Section) (i : ℕ) → Within x i → Within y i → shares x y ≡ true
unfolding shares
shared-is x y i h k =
    let a = h.0 in
    let b = h.1 in
    let c = k.0 in
    let d = k.1 in
    rw (
      lt-ltb x.place (end_of x) (omega arith),
      lt-ltb y.place (end_of y) (omega arith),
      lt-ltb x.place (end_of y) (omega arith),
      lt-ltb y.place (end_of x) (omega arith),
    )

pub shared : (x y : Section) → (shares x y ≡ true) ↔ ((i : ℕ) × Within x i × Within y i)
shared x y = (shared-yes x y, λ h. shared-is x y h.0 h.1 h.2)

apart-yes : (x y : Section) → apart x y ≡ false → shares x y ≡ true
unfolding apart
apart-yes x y e = not-false (shares x y) e

-- ---- two parts that share a byte
pub overlap : (s : List ℕ) → (overlaps s ≡ true)
    ↔ ((i : ℕ) × (j : ℕ) × (b : ℕ) × (i < j) × (j < length (parts s)) × Within (get_or (parts s) i no_section) b × Within (get_or (parts s) j no_section) b)
unfolding overlaps apart
overlap s = (
  (λ e.
      let g = pairwise-gap apart no_section (parts s) (not-true _ e) in
      let w = shared-yes _ _ (apart-yes (get_or (parts s) g.0 no_section) (get_or (parts s) g.1 no_section) g.4) in
      (g.0, g.1, w.0, g.2, g.3, w.1, w.2)),
  (λ h.
      split (pairwise apart (parts s))
      (λ t.
      clash
      (shared-is (get_or (parts s) h.0 no_section) (get_or (parts s) h.1 no_section) h.2 h.5 h.6)
      (not-true _ (pairwise-at apart no_section (parts s) (pairwise-pairs apart (parts s) t) h.0 h.1 h.3 h.4)))
      (λ t. rw t)),
)

-- ---- past the file's end
outside : (s : List ℕ) (x : Section) → inside s x ≡ false → length s < end_of x
unfolding inside
outside s x e = leb-false (end_of x) (length s) e

pub cut : (s : List ℕ) → (cut_short s ≡ true)
    ↔ ((length s < page_end (count s)) ⊎ ((x : Section) × In x (sections s) × (length s < end_of x)))
cut s = (told, is)
  where
    told : cut_short s ≡ true → (length s < page_end (count s)) ⊎ ((x : Section) × In x (sections s) × (length s < end_of x))
    told e = elim (dec_lt (length s) (page_end (count s))) [
      | yes l ↦ inl l
      | no l ↦ (
          let g = every-gap (inside s) (sections s) no_section (not-true _ (sym (cut-rest s (omega arith)) ∙ e)) in
          inr (get_or (sections s) g.0 no_section, in-at no_section (sections s) g.0 g.1, outside s _ g.2)
          )
    ]

    is : (length s < page_end (count s)) ⊎ ((x : Section) × In x (sections s) × (length s < end_of x)) → cut_short s ≡ true
    is (inl l) = cut-page s l
    is (inr h) = elim (dec_lt (length s) (page_end (count s))) [
      | yes l ↦ cut-page s l
      | no l ↦ (
          split (every (inside s) (sections s))
          (λ t. clash (all_in (λ x. inside s x ≡ true) (sections s) h.0 (every-all (inside s) (sections s) t) h.1) (not-inside s h.0 h.2))
          (λ t. cut-rest s (omega arith) ∙ ap not t)
          )
    ]

-- ---- each kind once
kind-is : (k : ℕ) (x : Section) → of_kind k x ≡ true → x.kind ≡ k
unfolding of_kind
kind-is k x e = eqb-true x.kind k e

-- a section of another kind
other : ℕ → Section
other k = record { kind = suc k; place = 0; len = 0 }

not-other : (k : ℕ) → of_kind k (other k) ≡ false
unfolding of_kind other
not-other k = ne_eqb (suc k) k (λ e. omega arith)

good-once : (k : ℕ) (xs : List Section) → tally (of_kind k) xs ≡ 1 → (i j : ℕ) → i < length xs → j < length xs
    → (get_or xs i no_section).kind ≡ k → (get_or xs j no_section).kind ≡ k → i ≡ j
good-once k xs e i j a b p q =
    tally-one (of_kind k) (other k) (not-other k) xs e i j
    (rw (get_d_any xs i (other k) no_section a) (of-kind k _ p))
    (rw (get_d_any xs j (other k) no_section b) (of-kind k _ q))

pub kinds : (n : ℕ) (s : List ℕ) → (kinds_good n s ≡ true) ↔ Kinds n s
unfolding kinds_good
kinds n s = (told, is)
  where
    told : kinds_good n s ≡ true → Kinds n s
    told e =
        let a = every-all (λ x. ltb x.kind n) (sections s) (and_left (every (λ x. ltb x.kind n) (sections s)) _ e) in
        let once : (k : ℕ) → k < n → tally (of_kind k) (sections s) ≡ 1 =
        (λ k h. eqb-true _ 1 (all-below-n (λ k. eqb (tally (of_kind k) (sections s)) 1) n (and_right (every (λ x. ltb x.kind n) (sections s)) _ e) k h)) in
        let known : (x : Section) → In x (sections s) → x.kind < n = (λ x i. ltb-true _ _ (all_in (λ x. ltb x.kind n ≡ true) (sections s) x a i)) in
        record {
          known = known;
          there = λ k h.
              let t = once k h in
              let g = tally-there (of_kind k) no_section (sections s) (omega arith) in
              (g.0, g.1, kind-is k _ g.2);
          once = λ i j a b e.
              good-once (get_or (sections s) j no_section).kind (sections s) (once _ (known _ (in-at no_section (sections s) j b))) i j a b e refl;
        }

    is : Kinds n s → kinds_good n s ≡ true
    is h =
        and_both
        (all-every (λ x. ltb x.kind n) (sections s) (all-of-in (λ x. ltb x.kind n ≡ true) (sections s) (λ x i. lt-ltb x.kind n (h.known x i))))
        (every-below (λ k. eqb (tally (of_kind k) (sections s)) 1) n (λ k l.
        let g = h.there k l in
        eq-eqb (tally (of_kind k) (sections s)) 1
        (tally-only (of_kind k) no_section (sections s) g.0 g.1 (of-kind k _ g.2)
        (λ j m t. h.once j g.0 m g.1 (kind-is k _ t ∙ sym g.2)))))
