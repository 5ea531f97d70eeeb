-- Bytes moved on, and a head written before them. Assumes nothing.
use Rattle.std.specs.Prelude.{min}
use Rattle.std.proofs.Math.Nat.{sub-add-min_cancel}
use Prim.Native.Nat.{ℕ, zero, suc, ◌+◌, ◌-◌, ◌≤◌, ◌<◌}
use mathlib.Core.List.{List, [], ◌∷◌, ◌++◌}
use mathlib.Core.Path.{◌≡◌, refl, sym, ap, ◌∙◌}
use native.Mathlib.Omega.{arith}
use borrow.Author.Tests.{leb-true, leb-false}
use lib.Dec.{leb}
use lib.ListN.{length, take, drop, length-drop, length-append}
use lib.Seq.{take_all, paste, length-take-le}
use Rattle.seq.specs.Bytes.{part}
use Rattle.seq.proofs.Logic.{split}
use Rattle.buffer.specs.Capped.{capped, largest}
use Rattle.buffer.specs.Over.{over}
use Rattle.buffer.proofs.Sums.{capped_is, capped-past, sum_more}
use Rattle.buffer.proofs.Wrote.{Wrote}
use Rattle.buffer.proofs.Over.{over_none, over-past, over-fits, over-take, length_over}
use Rattle.packing.specs.Headed.{headed}
use Rattle.packing.proofs.Laws.{First}

-- ---- at one place
-- what stands there already
pub over-self : (l : List ℕ) (at n : ℕ) → over l at (take n (drop at l)) ≡ l
unfolding over
over-self [] at n = refl
over-self (x ∷ l) (suc at) n = ap (λ k. x ∷ k) (over-self l at n)
over-self (x ∷ l) zero zero = refl
over-self (x ∷ l) zero (suc n) = ap (λ k. x ∷ k) (over-self l zero n)

-- before what was written behind it
over-front : (h l b : List ℕ) → over (over l (length h) b) 0 h ≡ over l 0 (h ++ b)
unfolding over
over-front [] l b = over_none (over l 0 b) 0
over-front (c ∷ h) [] b = refl
over-front (c ∷ h) (x ∷ l) b = ap (λ k. c ∷ k) (over-front h l b)

-- over what was written there and is no longer
over-cover : (l a b : List ℕ) → length a ≤ length b → over (over l 0 a) 0 b ≡ over l 0 b
unfolding over
over-cover [] a b h = refl
over-cover (x ∷ l) [] b h = refl
over-cover (x ∷ l) (v ∷ a) [] h = absurd (omega arith)
over-cover (x ∷ l) (v ∷ a) (w ∷ b) h = ap (λ k. w ∷ k) (over-cover l a b (omega arith))

-- what was written, as far as there was room
take-over : (l b : List ℕ) → take (length b) (over l 0 b) ≡ take (length l) b
unfolding over
take-over [] [] = refl
take-over [] (v ∷ b) = refl
take-over (x ∷ l) [] = refl
take-over (x ∷ l) (v ∷ b) = ap (λ k. v ∷ k) (take-over l b)

-- ---- a head h, before b, for which one byte x was left
before : (l h b : List ℕ) → over (over (over l 0 b) (length h) (take (length b) (over l 0 b))) 0 h ≡ over l 0 (h ++ b)
before l h b =
    let n = length_over l 0 b in
    ap (λ w. over (over (over l 0 b) (length h) w) 0 h) (take-over l b)
    ∙ ap (λ k. over k 0 h) (over-take (length l) (over l 0 b) (length h) b (omega arith))
    ∙ over-front h (over l 0 b) b
    ∙ over-cover l b (h ++ b) (long h b)
  where
    long : (h b : List ℕ) → length b ≤ length (h ++ b)
    long [] b = omega arith
    long (c ∷ h) b = let r = long h b in omega arith

heads : (l : List ℕ) (o x c : ℕ) (h b : List ℕ)
    → over (over (over l o (x ∷ b)) (o + suc (length h)) (take (length b) (drop (o + 1) (over l o (x ∷ b))))) o (c ∷ h) ≡ over l o (c ∷ h ++ b)
unfolding over
heads [] o x c h b = refl
heads (y ∷ l) (suc o) x c h b =
    let p : suc o + suc (length h) ≡ suc (o + suc (length h)) = omega arith in
    let q : suc o + 1 ≡ suc (o + 1) = omega arith in
    rw (p, q) (ap (λ k. y ∷ k) (heads l o x c h b))
heads (y ∷ l) zero x c h b =
    let p : 0 + suc (length h) ≡ suc (length h) = omega arith in
    rw p (ap (λ k. c ∷ k) (before l h b))

part-capped : (l : List ℕ) (a n : ℕ) → length l ≤ largest → part a (capped n) l ≡ part a n l
part-capped l a n h =
    split (leb n largest)
    (λ y. ap (λ (k : ℕ). part a k l) (sym (capped_is n (leb-true n largest y))))
    (λ y.
    let p = leb-false n largest y in
    let d = length-drop a l in
    let e = capped-past n (omega arith) in
    take_all (capped n - a) (drop a l) (omega arith) ∙ sym (take_all (n - a) (drop a l) (omega arith)))

-- the head of what was written behind one byte
pub headed-is : (l : List ℕ) (o x c : ℕ) (h b : List ℕ) → length l ≤ largest
    → headed (over l o (x ∷ b)) o (capped (o + length (x ∷ b))) (c ∷ h) ≡ over l o ((c ∷ h) ++ b)
unfolding headed
headed-is l o x c h b n =
    let m : length (over l o (x ∷ b)) ≤ largest = omega (arith, length_over l o (x ∷ b)) in
    let e : o + suc (length b) - (o + 1) ≡ length b = omega arith in
    ap (λ (w : List ℕ). over (over (over l o (x ∷ b)) (o + suc (length h)) w) o (c ∷ h))
    (part-capped (over l o (x ∷ b)) (o + 1) (o + suc (length b)) m ∙ ap (λ (k : ℕ). take k (drop (o + 1) (over l o (x ∷ b)))) e)
    ∙ heads l o x c h b

-- ---- bytes that are moved
-- a copy of the first n bytes of src, all of which have room
pub over-paste : (l src : List ℕ) (at n : ℕ) → at + n ≤ length l → n ≤ length src → paste l at src n ≡ over l at (take n src)
unfolding over
over-paste l src zero n h k =
    let z : 0 + n ≡ n = omega arith in
    let e : length (take n src) ≡ n = length-take-le n src k in
    rw z (ap (λ j. take n src ++ drop j l) (sym e) ∙ sym (over-fits l (take n src) (omega arith)))
over-paste [] src (suc at) n h k = absurd (omega arith)
over-paste (x ∷ l) src (suc at) n h k = let z : suc at + n ≡ suc (at + n) = omega arith in rw z (ap (λ t. x ∷ t) (over-paste l src at n (omega arith) k))

-- nothing is moved
module _ (l : List ℕ) (o q by : ℕ) where
  pub moved-by-none : by ≡ 0 → l ≡ over l (o + 1 + by) (part (o + 1) q l)
  moved-by-none e = let z : o + 1 + by ≡ o + 1 = omega arith in rw z (sym (over-self l (o + 1) (q - (o + 1))))

  pub moved-past : length l ≤ o + 1 + by → l ≡ over l (o + 1 + by) (part (o + 1) q l)
  moved-past h = sym (over-past l (o + 1 + by) (part (o + 1) q l) h)

  pub moved_nothing : q ≤ o + 1 → l ≡ over l (o + 1 + by) (part (o + 1) q l)
  moved_nothing h = let z : q - (o + 1) ≡ 0 = omega arith in rw z (sym (over_none l (o + 1 + by)))

  -- none of them has room
  pub moved_none : (end : ℕ) → end ≡ min q (length l - by) → end ≤ o + 1 → l ≡ over l (o + 1 + by) (part (o + 1) q l)
  moved_none end e h =
      let m = sub-add-min_cancel q (length l - by) in
      split (leb q (o + 1))
      (λ y. moved_nothing (leb-true q (o + 1) y))
      (λ y. let p = leb-false q (o + 1) y in moved-past (omega arith))

  -- those are that have room
  pub moved : (m : List ℕ) (end : ℕ) → end ≡ min q (length l - by) → o + 1 < end → m ≡ paste l (o + 1 + by) (drop (o + 1) l) (end - (o + 1))
      → m ≡ over l (o + 1 + by) (part (o + 1) q l)
  moved m end e h p =
      let r = sub-add-min_cancel q (length l - by) in
      let src = drop (o + 1) l in
      let d = length-drop (o + 1) l in
      let at = o + 1 + by in
      let n = end - (o + 1) in
      p ∙ over-paste l src at n (omega arith) (omega arith)
      ∙ split (leb q (length l - by))
      (λ y. let u = leb-true q (length l - by) y in let z : n ≡ q - (o + 1) = omega arith in ap (λ (k : ℕ). over l at (take k src)) z)
      (λ y.
      let u = leb-false q (length l - by) y in
      over-take n l at src (omega arith) ∙ sym (over-take (q - (o + 1)) l at src (omega arith)))

-- a head behind which the bytes were moved
pub headed-by : (l m k : List ℕ) (o q by : ℕ) (h : List ℕ) → by ≡ length h - 1 → 1 ≤ length h → m ≡ over l (o + 1 + by) (part (o + 1) q l)
    → k ≡ over m o h → k ≡ headed l o q h
unfolding headed
headed-by l m k o q by h e n p r =
    let z : o + 1 + by ≡ o + length h = omega arith in
    r ∙ ap (λ (x : List ℕ). over x o h) (p ∙ ap (λ (a : ℕ). over l a (part (o + 1) q l)) z)

-- a head that was written last, before what stands behind it
pub headed-wrote : {old out left : List ℕ} {o q r : ℕ} {x : ℕ} {b : List ℕ} (h : List ℕ) → length old ≤ largest → First h → Wrote old o (x ∷ b) q out
    → r ≡ capped (q + (length h - 1)) → left ≡ headed out o q h → Wrote old o (h ++ b) r left
headed-wrote {old} {out} {left} {o} {q} {r} {x} {b} h n f w e l =
    let a = length-append h b in
    let k = ap length f.is in
    record {
      ends = e ∙ sum_more q (length h - 1) (o + length (x ∷ b)) (o + length (h ++ b)) w.ends (omega arith);
      leaves =
          l ∙ ap (λ (m : List ℕ). headed m o q h) w.leaves
          ∙ ap (λ (p : ℕ). headed (over old o (x ∷ b)) o p h) w.ends
          ∙ ap (headed (over old o (x ∷ b)) o (capped (o + length (x ∷ b)))) f.is
          ∙ headed-is old o x f.byte f.rest b n
          ∙ ap (λ (g : List ℕ). over old o (g ++ b)) (sym f.is);
    }
