-- The discipline of the buffer: a text that fits is written whole, and two texts, one put behind the other, are written as one. Assumes nothing.
use mathlib.Core.Path.{◌≡◌, sym, ap, ◌∙◌}
use Prim.Native.Nat.{ℕ, ◌+◌, ◌-◌, ◌≤◌}
use mathlib.Core.List.{List, ◌++◌, append_assoc, append-nil}
use native.Mathlib.Nat.{add-zero}
use native.Mathlib.Decide.{dec_le}
use native.Mathlib.Omega.{arith}
use lib.ListN.{length, take, drop, length-append, length-take, length-drop, take-append-drop}
use lib.Seq.{length-take-le, take_all, take-append-le, take-append-add, take_at, drop_at, drop-drop}
use Rattle.show.specs.Buffer.{fitting, after, written}

pub whole : (buffer : List ℕ) (at : ℕ) (text : List ℕ) → at + length text ≤ length buffer → fitting buffer at text ≡ text
unfolding fitting
whole buffer at text h = take_all (length buffer - at) text (omega arith)

pub length-written : (buffer : List ℕ) (at : ℕ) (text : List ℕ) → length (written buffer at text) ≡ length buffer
unfolding written after fitting
length-written buffer at text = simp (length-append, length-take, length-drop) (omega arith)

take-joined : (n : ℕ) (x y : List ℕ) → take n (x ++ y) ≡ take n x ++ take (n - length x) y
take-joined n x y = elim (dec_le n (length x)) [
  | yes h ↦ (let z : n - length x ≡ 0 = omega arith in take-append-le n x y h ∙ rw z (sym (append-nil (take n x))))
  | no h ↦ (
      let e : n ≡ length x + (n - length x) = omega arith in
      ap (λ k. take k (x ++ y)) e ∙ take-append-add x y (n - length x) ∙ ap (λ l. l ++ take (n - length x) y) (sym (take_all n x (omega arith)))
      )
]

-- a place past the end takes nothing
written-past : (buffer : List ℕ) (at : ℕ) (text : List ℕ) → length buffer ≤ at → written buffer at text ≡ buffer
unfolding written after fitting
written-past buffer at text h =
    let z : length buffer - at ≡ 0 = omega arith in
    rw (z, add-zero, append-nil, take-append-drop)

after-from : (buffer : List ℕ) (at : ℕ) (text : List ℕ) → at ≤ after buffer at text
unfolding after
after-from buffer at text = omega arith

module _ (buffer : List ℕ) (at : ℕ) (one two : List ℕ) where
  fitting-then : fitting buffer at one ++ fitting (written buffer at one) (after buffer at one) two ≡ fitting buffer at (one ++ two)
  unfolding fitting after
  fitting-then =
      let e : length (written buffer at one) - (at + length (take (length buffer - at) one)) ≡ length buffer - at - length one =
      rw (length-written buffer at one, length-take (length buffer - at) one) (omega arith) in
      rw (e, take-joined (length buffer - at) one two)

  pub after_then : after (written buffer at one) (after buffer at one) two ≡ after buffer at (one ++ two)
  unfolding after
  after_then = rw (← fitting-then, length-append) (omega arith)

  past : length buffer ≤ at → written (written buffer at one) (after buffer at one) two ≡ written buffer at (one ++ two)
  past h =
      let k : length buffer ≤ after buffer at one = omega (arith, after-from buffer at one) in
      rw (written-past buffer at one h, written-past buffer (after buffer at one) two k, written-past buffer at (one ++ two) h)

  within : at ≤ length buffer → written (written buffer at one) (after buffer at one) two ≡ written buffer at (one ++ two)
  unfolding written after
  within h =
      let first : List ℕ = fitting buffer at one in
      let n : ℕ = at + length first in
      let second : List ℕ = fitting (written buffer at one) n two in
      let p : List ℕ = take at buffer ++ first in
      let q : List ℕ = drop n buffer in
      let e : length p ≡ n = length-append (take at buffer) first ∙ ap (λ k. k + length first) (length-take-le at buffer h) in
      ap (λ l. l ++ second ++ drop (n + length second) (p ++ q)) (take_at p q n e)
      ∙ ap (λ l. p ++ second ++ l)
      (sym (drop-drop (length second) n (p ++ q)) ∙ ap (drop (length second)) (drop_at p q n e) ∙ drop-drop (length second) n buffer)
      ∙ ap (λ l. l ++ drop (n + length second) buffer) (append_assoc (take at buffer) first second)
      ∙ ap (λ l. take at buffer ++ l ++ drop (n + length second) buffer) fitting-then
      ∙ ap (λ k. take at buffer ++ fitting buffer at (one ++ two) ++ drop k buffer) after_then

  pub written_then : written (written buffer at one) (after buffer at one) two ≡ written buffer at (one ++ two)
  written_then = elim (dec_le (length buffer) at) [ yes h ↦ past h | no h ↦ within (omega arith) ]
