-- What the code reads of a contents page, and what its tests decide. Assumes nothing.
use Prim.Native.Nat.{ℕ, zero, suc, ◌+◌, ◌*◌, ◌-◌, ◌≤◌, ◌<◌}
use mathlib.Core.Bool.{Bool, true, false, not}
use mathlib.Core.List.{List, [], ◌∷◌}
use mathlib.Core.Path.{◌≡◌, sym, ap, ◌∙◌}
use native.Mathlib.Decide.{dec_lt}
use native.Mathlib.Numerals.{add-one}
use native.Mathlib.Omega.{arith}
use borrow.Author.Tests.{lt-ltb, le-ltb, le-leb, lt-leb, eq-eqb, ne_eqb}
use lib.Dec.{ltb}
use lib.ListN.{length, take, drop, get_or, length-map}
use lib.Seq.{drop-drop, get_or-drop}
use Rattle.seq.specs.Bytes.{byte_at}
use Rattle.seq.specs.Lists.{every}
use Rattle.seq.specs.BigEndian.{number, cut}
use Rattle.seq.proofs.Lists.{every-snoc, every_front}
use Rattle.seq.proofs.BigEndian.{Bytes, length_cut, cut_at, part-size}
use Rattle.contents.specs.declared.Section.{Section}
use Rattle.contents.specs.Contents.{count, page_end, section_of, sections, end_of, inside, cut_short, shares, apart, page, parts, of_kind, below, body_at, no_section}

-- ---- numbers of 4 bytes
pub number-4 : (s : List ℕ) → Bytes s → number 4 s < 4294967296
unfolding number
number-4 s f = omega (arith, f 0, f 1, f 2, f 3)

-- the number at a place of bytes
pub number_at : (a : ℕ) (s : List ℕ) → Bytes s → number 4 (drop a s) < 4294967296
number_at a s f = number-4 (drop a s) (λ k. rw (get_or-drop a s k 0) (f (a + k)))

-- ---- the sections
-- what the code reads of an entry's bytes
pub section-by : (b : List ℕ) (k p l : ℕ) → k ≡ byte_at b 0 → p ≡ number 4 (drop 1 b) → l ≡ number 4 (drop 5 b)
    → record { kind = k; place = p; len = l } ≡ section_of b
unfolding section_of
section-by b k p l d e f = rw (d, e, f)

pub length-sections : (s : List ℕ) → length (sections s) ≡ count s
unfolding sections
length-sections s = length-map (cut 9 (count s) (drop 2 s)) section_of ∙ length_cut 9 (count s) (drop 2 s)

pub length-parts : (s : List ℕ) → length (parts s) ≡ count s + 1
unfolding parts
length-parts s = let e = length-sections s in omega arith

-- the bytes of a section's entry, as the code cuts them
pub section-is : (s : List ℕ) (k : ℕ) → k < count s
    → section_of (take (k * 9 + 2 + 9 - (k * 9 + 2)) (drop (k * 9 + 2) s)) ≡ get_or (sections s) k no_section
unfolding sections
section-is s k h =
    let a : k * 9 + 2 + 9 - (k * 9 + 2) ≡ 9 = omega arith in
    let b : 2 + k * 9 ≡ k * 9 + 2 = omega arith in
    rw a (sym (cut_at section_of 9 (count s) (drop 2 s) k no_section h ∙ ap (λ l. section_of (take 9 l)) (drop-drop (k * 9) 2 s ∙ ap (λ i. drop i s) b)))

-- the bytes of a section, as the code cuts them
pub body_is : (s : List ℕ) (x : Section) → take (x.place + x.len - x.place) (drop x.place s) ≡ body_at s x
unfolding body_at
body_is s x = rw (part-size x.place x.len)

-- the parts: the page, and behind it the sections
pub part-first : (s : List ℕ) (n : ℕ) → n ≡ count s → record { kind = 0; place = 0; len = n * 9 + 2 } ≡ get_or (parts s) 0 no_section
unfolding parts page
part-first s n e = let q : n * 9 + 2 ≡ 2 + count s * 9 = omega arith in rw q

pub part-later : (s : List ℕ) (k : ℕ) → 0 < k → get_or (sections s) (k - 1) no_section ≡ get_or (parts s) k no_section
unfolding parts
part-later s zero h = absurd (omega arith)
part-later s (suc k) h = let q : suc k - 1 ≡ k = omega arith in rw q

-- ---- the numbers below n, of which a loop has tested those below i
module _ (p : ℕ → Bool) (i : ℕ) (so_far : every p (below i) ≡ true) where
  pub below-pass : p i ≡ true → every p (below (i + 1)) ≡ true
  unfolding below
  below-pass t = rw (add-one i) (every-snoc p (below i) i so_far ∙ t)

  pub below-fail : (n : ℕ) → i < n → p i ≡ false → every p (below n) ≡ false
  unfolding below
  below-fail zero h t = absurd (omega arith)
  below-fail (suc n) h t = elim (dec_lt i n) [
    | yes l ↦ every_front p (below n) (n ∷ []) (below-fail n l t)
    | no l ↦ (let e : n ≡ i = omega arith in rw e (every-snoc p (below i) i so_far ∙ t))
  ]

-- ---- what the tests decide
pub not-inside : (s : List ℕ) (x : Section) → length s < end_of x → inside s x ≡ false
unfolding inside
not-inside s x h = lt-leb _ _ h

pub is-inside : (s : List ℕ) (x : Section) → (length s < end_of x → ⊥) → inside s x ≡ true
unfolding inside
is-inside s x h = le-leb (end_of x) (length s) (omega arith)

module _ (x y : Section) where
  pub shares-none : end_of x ≤ x.place → shares x y ≡ false
  unfolding shares
  shares-none h = rw (le-ltb x.place (end_of x) h)

  pub shares-empty : x.place < end_of x → end_of y ≤ y.place → shares x y ≡ false
  unfolding shares
  shares-empty g h = rw (lt-ltb x.place (end_of x) g, le-ltb y.place (end_of y) h)

  pub shares-behind : x.place < end_of x → y.place < end_of y → end_of y ≤ x.place → shares x y ≡ false
  unfolding shares
  shares-behind g h i = rw (lt-ltb x.place (end_of x) g, lt-ltb y.place (end_of y) h, le-ltb x.place (end_of y) i)

  pub shares-last : x.place < end_of x → y.place < end_of y → x.place < end_of y → shares x y ≡ ltb y.place (end_of x)
  unfolding shares
  shares-last g h i = rw (lt-ltb x.place (end_of x) g, lt-ltb y.place (end_of y) h, lt-ltb x.place (end_of y) i)

pub is-apart : (x y : Section) → shares x y ≡ false → apart x y ≡ true
unfolding apart
is-apart x y e = rw e

pub not-apart : (x y : Section) → shares x y ≡ true → apart x y ≡ false
unfolding apart
not-apart x y e = rw e

pub of-kind : (k : ℕ) (x : Section) → x.kind ≡ k → of_kind k x ≡ true
unfolding of_kind
of-kind k x e = eq-eqb x.kind k e

pub not-of-kind : (k : ℕ) (x : Section) → (x.kind ≡ k → ⊥) → of_kind k x ≡ false
unfolding of_kind
not-of-kind k x n = ne_eqb x.kind k n

-- the page alone is cut; or it is whole, and the sections decide
pub cut-page : (s : List ℕ) → length s < page_end (count s) → cut_short s ≡ true
unfolding cut_short
cut-page s h = rw (lt-ltb (length s) (page_end (count s)) h)

pub cut-rest : (s : List ℕ) → page_end (count s) ≤ length s → cut_short s ≡ not (every (inside s) (sections s))
unfolding cut_short
cut-rest s h = rw (le-ltb (length s) (page_end (count s)) h)
