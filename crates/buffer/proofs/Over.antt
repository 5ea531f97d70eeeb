-- Laws of `over`: one write, and one write after another. Assumes nothing.
use Prim.Native.Nat.{ℕ, zero, suc, ◌+◌, ◌-◌, ◌≤◌, ◌<◌}
use mathlib.Core.List.{List, [], ◌∷◌, ◌++◌}
use mathlib.Core.Path.{◌≡◌, refl, sym, ap, ◌∙◌, subst}
use native.Mathlib.Numerals.{add-one}
use native.Mathlib.Omega.{arith}
use borrow.Author.Tests.{leb-true, leb-false}
use lib.Dec.{leb}
use lib.ListN.{length, take, drop, set, get_or}
use lib.Seq.{take-suc, take_all, length-take-le}
use borrow.Rule.Slice.PartMut.{put_mid}
use Rattle.seq.proofs.Holds.{Holds, holds-self, holds-left}
use Rattle.seq.proofs.Logic.{split}
use Rattle.buffer.specs.Capped.{capped, largest}
use Rattle.buffer.proofs.Sums.{capped_is, capped-past}
use Rattle.buffer.specs.Over.{over}

-- nothing written
pub over_none : (l : List ℕ) (at : ℕ) → over l at [] ≡ l
unfolding over
over_none [] at = refl
over_none (x ∷ l) zero = refl
over_none (x ∷ l) (suc at) = ap (λ k. x ∷ k) (over_none l at)

-- past the end
pub over-past : (l : List ℕ) (at : ℕ) (b : List ℕ) → length l ≤ at → over l at b ≡ l
unfolding over
over-past [] at b h = refl
over-past (x ∷ l) zero b h = absurd (omega arith)
over-past (x ∷ l) (suc at) b h = ap (λ k. x ∷ k) (over-past l at b (omega arith))

pub length_over : (l : List ℕ) (at : ℕ) (b : List ℕ) → length (over l at b) ≡ length l
unfolding over
length_over [] at b = refl
length_over (x ∷ l) zero [] = refl
length_over (x ∷ l) zero (v ∷ b) = ap suc (length_over l zero b)
length_over (x ∷ l) (suc at) b = ap suc (length_over l at b)

-- at the start, where it fits
pub over-fits : (l new : List ℕ) → length new ≤ length l → over l 0 new ≡ new ++ drop (length new) l
unfolding over
over-fits [] [] h = refl
over-fits [] (v ∷ new) h = absurd (omega arith)
over-fits (x ∷ l) [] h = refl
over-fits (x ∷ l) (v ∷ new) h = ap (λ k. v ∷ k) (over-fits l new (omega arith))

-- from a place on, where it fits: what is left of a slice of which a part was written
pub over-put : (l : List ℕ) (at : ℕ) (b : List ℕ) → at + length b ≤ length l → over l at b ≡ put_mid at (length b) l b
unfolding over
over-put [] zero b h = over-fits [] b (omega arith)
over-put [] (suc at) b h = absurd (omega arith)
over-put (x ∷ l) zero b h = over-fits (x ∷ l) b (omega arith)
over-put (x ∷ l) (suc at) b h = ap (λ k. x ∷ k) (over-put l at b (omega arith))

-- so the bytes stand there
pub over-holds : (l new : List ℕ) → length new ≤ length l → Holds (over l 0 new) 0 new
over-holds l new h =
    let rest = drop (length new) l in
    subst (λ s. Holds s 0 new) (sym (over-fits l new h)) (holds-left (new ++ rest) 0 new rest (holds-self (new ++ rest)))

-- one write after another
pub over-over : (l : List ℕ) (at : ℕ) (a b : List ℕ) → over (over l at a) (at + length a) b ≡ over l at (a ++ b)
unfolding over
over-over [] at a b = refl
over-over (x ∷ l) (suc at) a b =
    let q : suc at + length a ≡ suc (at + length a) = omega arith in rw q (ap (λ k. x ∷ k) (over-over l at a b))
over-over (x ∷ l) zero [] b = let q : 0 + 0 ≡ 0 = omega arith in rw q
over-over (x ∷ l) zero (v ∷ a) b =
    let q : 0 + suc (length a) ≡ suc (0 + length a) = omega arith in rw q (ap (λ k. v ∷ k) (over-over l zero a b))

-- two bytes before what was written from place 2 on
pub over-before : (l new : List ℕ) (a b : ℕ) → over (over l 2 new) 0 (a ∷ b ∷ []) ≡ over l 0 (a ∷ b ∷ new)
unfolding over
over-before [] new a b = refl
over-before (x ∷ []) new a b = refl
over-before (x ∷ (y ∷ l)) new a b = ap (λ k. a ∷ b ∷ k) (over_none (over l 0 new) 0)

-- a store of one byte
pub over-store : (l : List ℕ) (at v : ℕ) → at < length l → set l at v ≡ over l at (v ∷ [])
unfolding over
over-store [] at v h = absurd (omega arith)
over-store (x ∷ l) zero v h = ap (λ k. v ∷ k) (sym (over_none l 0))
over-store (x ∷ l) (suc at) v h = ap (λ k. x ∷ k) (over-store l at v (omega arith))

-- a place that stops at the largest number, which is past the end of every slice
pub over-capped : (l : List ℕ) (n : ℕ) (b : List ℕ) → length l ≤ largest → over l (capped n) b ≡ over l n b
over-capped l n b h =
    split (leb n largest)
    (λ y. ap (λ k. over l k b) (sym (capped_is n (leb-true n largest y))))
    (λ y.
    let p = leb-false n largest y in
    over-past l (capped n) b (omega (arith, capped-past n (omega arith))) ∙ sym (over-past l n b (omega arith)))

-- ---- a loop that copies src
-- one byte more
pub copy-turn : (l m src : List ℕ) (at j : ℕ) → m ≡ over l at (take j src) → j < length src → at + j < length l
    → set m (at + j) (get_or src j 0) ≡ over l at (take (j + 1) src)
copy-turn l m src at j em hj ho =
    let e : length (take j src) ≡ j = length-take-le j src (omega arith) in
    let k : length m ≡ length l = ap length em ∙ length_over l at (take j src) in
    over-store m (at + j) (get_or src j 0) (omega arith)
    ∙ ap (λ x. over x (at + j) (get_or src j 0 ∷ [])) em
    ∙ ap (λ n. over (over l at (take j src)) (at + n) (get_or src j 0 ∷ [])) (sym e)
    ∙ over-over l at (take j src) (get_or src j 0 ∷ [])
    ∙ ap (over l at) (sym (ap (λ k. take k src) (add-one j) ∙ take-suc src j 0 hj))

-- as many bytes as there is room for are all
pub over-take : (n : ℕ) (l : List ℕ) (at : ℕ) (new : List ℕ) → length l ≤ at + n → over l at (take n new) ≡ over l at new
unfolding over
over-take n [] at new h = refl
over-take n (x ∷ l) (suc at) new h = ap (λ k. x ∷ k) (over-take n l at new (omega arith))
over-take zero (x ∷ l) zero new h = absurd (omega arith)
over-take (suc n) (x ∷ l) zero [] h = refl
over-take (suc n) (x ∷ l) zero (v ∷ new) h = ap (λ k. v ∷ k) (over-take n l zero new (omega arith))

pub copy-all : (l src : List ℕ) (at j n : ℕ) → n ≡ length src - (length src - (length l - at)) → n ≤ j
    → over l at (take j src) ≡ over l at src
copy-all l src at j n e h =
    split (leb (length src) j)
    (λ y. ap (over l at) (take_all j src (leb-true (length src) j y)))
    (λ y. over-take j l at src (omega (arith, leb-false (length src) j y)))
