-- Bytes written again from where they stand, and a text so many times. Assumes nothing.
use Rattle.std.specs.Prelude.{min}
use Rattle.std.proofs.Math.Nat.{sub-add-min_cancel}
use Rattle.std.proofs.lemmas.List.{drop-take, take-take}
use Prim.Native.Nat.{ℕ, zero, suc, ◌+◌, ◌-◌, ◌≤◌, ◌<◌}
use mathlib.Core.List.{List, [], ◌∷◌, ◌++◌, append_assoc, append-nil}
use mathlib.Core.Path.{◌≡◌, refl, sym, ap, ◌∙◌}
use native.Mathlib.Nat.{zero-add}
use native.Mathlib.Omega.{arith}
use lib.ListN.{length, take, drop, get_or, length-append, length-take, length-drop}
use lib.Seq.{paste}
use Rattle.buffer.specs.Capped.{capped, largest}
use Rattle.buffer.specs.Over.{over}
use Rattle.buffer.proofs.Sums.{capped-exact}
use Rattle.buffer.proofs.Over.{over_none, copy-all}
use Rattle.packing.proofs.Moved.{over-paste}
use Rattle.buffer.proofs.Wrote.{Wrote, wrote_then}
use Rattle.writing.specs.Times.{repeated}

-- ---- bytes that stand before a place
-- n bytes from a place on, of those before at
abbrev pub standing : ℕ → ℕ → ℕ → List ℕ → List ℕ
standing n from at l = take n (drop from (take at l))

take-least : (n : ℕ) (l : List ℕ) → length (take n l) ≡ n - (n - length l)
take-least n l = omega (arith, length-take n l)

pub standing-length : (n from at : ℕ) (l : List ℕ) → length (standing n from at l) ≡ n - (n - ((at - (at - length l)) - from))
standing-length n from at l =
    take-least n (drop from (take at l)) ∙ ap (λ k. n - (n - k)) (length-drop from (take at l) ∙ ap (λ k. k - from) (take-least at l))

-- how many bytes are copied, and that each stands before at and has room behind it
pub record Copies (n from at m : ℕ) (l : List ℕ) : Type 0 where
  pub count : m ≡ length (standing n from at l) - (length (standing n from at l) - (length l - at))
  pub each : (i : ℕ) → i < m → (i < n) × (from + i < at) × (from + i < length l) × (at + i < length l) × (i < length (standing n from at l))

both : (a b c i : ℕ) → c ≡ a - (a - b) → i < c → (i < a) × (i < b)
both a b c i e h = (omega arith, omega arith)

more : (a b c i : ℕ) → c ≡ a - b → i < c → b + i < a
more a b c i e h = omega arith

pub copies : (n from at : ℕ) (l : List ℕ) (end rest there room m : ℕ) → end ≡ at - (at - length l) → rest ≡ end - from
    → there ≡ n - (n - rest) → room ≡ length l - at → m ≡ there - (there - room) → Copies n from at m l
copies n from at l end rest there room m e r t o c =
    let size : there ≡ length (standing n from at l) =
    t ∙ ap (λ k. n - (n - k)) (r ∙ ap (λ k. k - from) e) ∙ sym (standing-length n from at l) in
    record {
      count = c ∙ ap (λ k. there - (there - k)) o ∙ ap (λ k. k - (k - (length l - at))) size;
      each = λ i h.
          let a = both there room m i c h in
          let b = both n rest there i t a.0 in
          let d = both at (length l) end (from + i) e (more end from rest i r b.1) in
          (b.0, d.0, d.1, more (length l) at room i o a.1, omega (arith, a.0, size));
    }

-- the lesser of two, as `copies` has it
pub min-is : (a b : ℕ) → min a b ≡ a - (a - b)
min-is a b = let e = sub-add-min_cancel a b in omega arith

-- those that have room are copied
pub again : (n from at m : ℕ) (l k : List ℕ) → Copies n from at m l → 0 < m → k ≡ paste l at (drop from l) (from + m - from) → k ≡ over l at (standing n from at l)
again n from at m l k c h e =
    let b = c.each (m - 1) (omega arith) in
    let d = length-drop from l in
    let p : from + (at - from) ≡ at = omega (arith, b.1) in
    let s : take m (standing n from at l) ≡ take m (drop from l) =
    take-take m n (drop from (take at l)) (omega (arith, b.0))
    ∙ ap (take m) (ap (λ j. drop from (take j l)) (sym p) ∙ drop-take from (at - from) l)
    ∙ take-take m (at - from) (drop from l) (omega (arith, b.1)) in
    e ∙ ap (paste l at (drop from l)) (let z : from + m - from ≡ m = omega arith in z)
    ∙ over-paste l (drop from l) at m (omega (arith, b.3)) (omega (arith, b.2)) ∙ ap (over l at) (sym s) ∙ copy-all l (standing n from at l) at m m c.count (omega arith)

-- none has
pub again-none : (n from at m : ℕ) (l : List ℕ) → Copies n from at m l → m ≡ 0 → l ≡ over l at (standing n from at l)
again-none n from at m l c z =
    sym (over_none l at) ∙ ap (λ j. over l at (take j (standing n from at l))) (sym z) ∙ copy-all l (standing n from at l) at m m c.count (omega arith)

pub repeated-add : (k n : ℕ) (t : List ℕ) → repeated (k + n) t ≡ repeated k t ++ repeated n t
unfolding repeated
repeated-add zero n t = rw (zero-add n)
repeated-add (suc k) n t =
    let q : suc k + n ≡ suc (k + n) = omega arith in
    rw q (ap (λ l. t ++ l) (repeated-add k n t) ∙ sym (append_assoc t (repeated k t) (repeated n t)))

-- ---- a text so many times
pub repeated-more : (n : ℕ) (t : List ℕ) → repeated n t ++ t ≡ repeated (n + 1) t
unfolding repeated
repeated-more zero t = sym (append-nil t)
repeated-more (suc n) t =
    let q : suc n + 1 ≡ suc (n + 1) = omega arith in
    rw q (append_assoc t (repeated n t) t ∙ ap (λ l. t ++ l) (repeated-more n t))

pub repeated-all : (i n : ℕ) (t : List ℕ) → i ≡ n - 1 → 1 ≤ n → t ++ repeated i t ≡ repeated n t
unfolding repeated
repeated-all i zero t e h = absurd (omega arith)
repeated-all i (suc n) t e h = let q : i ≡ n = omega arith in rw q

-- the first of them stands where it was written, if it fits
stands : (l t rest : List ℕ) (at o : ℕ) → at + length t ≤ length l → at + length t ≤ o → standing (length t) at o (over l at (t ++ rest)) ≡ t
unfolding over
stands l [] rest at o h k = refl
stands [] (v ∷ t) rest at o h k = absurd (omega arith)
stands (x ∷ l) (v ∷ t) rest at zero h k = absurd (omega arith)
stands (x ∷ l) (v ∷ t) rest zero (suc o) h k = ap (λ s. v ∷ s) (stands l t rest zero o (omega arith) (omega arith))
stands (x ∷ l) (v ∷ t) rest (suc at) (suc o) h k = stands l (v ∷ t) rest at o (omega arith) (omega arith)

pub repeated-none : (n : ℕ) (t : List ℕ) → n ≡ 0 → [] ≡ repeated n t
unfolding repeated
repeated-none n t e = rw e

-- a place that a write reaches
pub reaches : (a c o : ℕ) → o ≡ capped c → a ≤ c → a ≤ largest → a ≤ o
unfolding capped
reaches a c o e h k = omega arith

-- a copy of what was written first, with r between them
pub copied : (l l' m k t r : List ℕ) (at past n o q : ℕ) → length l < largest → length m ≡ length l → Wrote l at t past l' → Wrote l' past r o m
    → n ≡ past - at → past ≤ length m → q ≡ capped (o + n) → k ≡ over m o (standing n at o m) → Wrote m o t q k
copied l l' m k t r at past n o q room same first w d fit e b =
    let x : past ≡ at + length t = capped-exact (at + length t) past first.ends (omega arith) in
    let y : n ≡ length t = omega arith in
    let whole = wrote_then (omega arith) first w in
    let far : at + length t ≤ o =
    reaches (at + length t) (at + length (t ++ r)) o whole.ends (omega (arith, length-append t r)) (omega arith) in
    let s : standing n at o m ≡ t =
    ap (λ z. standing z at o m) y ∙ ap (standing (length t) at o) whole.leaves ∙ stands l t r at o (omega arith) far in
    record { ends = e ∙ ap (λ z. capped (o + z)) y; leaves = b ∙ ap (over m o) s }
