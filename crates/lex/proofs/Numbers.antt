-- Numbers (RFC 8259, section 6): what `number` goes over is a number of the grammar, and a number that stands at a place, with nothing after it
-- that would go on with it, is read whole. Assumes nothing.
use Rattle.std.specs.Prelude.{Some}
use mathlib.Core.Path.{◌≡◌, refl, sym, ap, ◌∙◌}
use mathlib.Core.Logic.{inl, inr, ⊎_elim}
use Prim.Native.Nat.{ℕ, ◌+◌, ◌≤◌}
use mathlib.Core.List.{List, [], ◌∷◌, ◌++◌, append_assoc}
use mathlib.Core.Bool.{Bool, true, false, ◌||◌}
use native.Mathlib.Omega.{arith}
use lib.ListN.{length, drop, length-append}
use lib.Dec.{leb}
use borrow.Author.Tests.{eqb-false, ne_eqb, leb-true, le-leb}
use Rattle.seq.specs.Bytes.{is, between, is_digit, byte_at}
use Rattle.seq.proofs.Bytes.{digit-bounds}
use Rattle.seq.proofs.Logic.{split, and_left, and_right, and_both, or-given}
use Rattle.lex.specs.Lex.{past, some_digits, integer, fraction, minus, signed, exponent, number}
use Rattle.lex.specs.Grammar.{Language, Sign, OneOf, Range, ◌·◌, ◌∪◌, Optional, Many, OneOrMore, Digit, Int, Frac, Exp, Number}
use Rattle.lex.proofs.Stands.{stands-next, stands-byte, stands_parts, Reads, reads_then, reads_as, reads_none}
use Rattle.lex.proofs.Stands.{Tests, tests-sign, tests-range, tests-or, tests-last, one_found, one_then, one-is, first_passes}
use Rattle.lex.proofs.Stands.{past-found, past_is, to_same, to-bad, and-then}

-- ---- the bytes
pub digit : Tests is_digit Digit
digit = tests-range "0" "9"

not-zero : Tests (between "1" "9") (Range "1" "9")
not-zero = tests-range "1" "9"

letter : Tests (λ b. is "e" b || is "E" b) (OneOf "eE")
letter = tests-or (tests-sign "e") (tests-last "E")

-- the signs of an exponent, which the grammar has in the other order
sign : Tests (λ b. is "+" b || is "-" b) (OneOf "-+")
sign = record {
  makes = λ b e. ⊎_elim (λ h. inr (inl h)) inl (plus-minus.makes b e);
  takes = λ t. ⊎_elim (λ h. plus-minus.takes t (inr h)) (⊎_elim (λ h. plus-minus.takes t (inl h)) (λ h. absurd h));
}
  where
    plus-minus : Tests (λ b. is "+" b || is "-" b) (Sign "+" ∪ Sign "-")
    plus-minus = tests-or (tests-sign "+") (tests-sign "-")

-- ---- what is of the grammar is read
nonzero : (b : ℕ) → between "1" "9" b ≡ true → (is "0" b ≡ false) × (is_digit b ≡ true)
nonzero b h =
    let l : 49 ≤ b = leb-true 49 b (and_left (leb 49 b) (leb b 57) h) in
    (ne_eqb b 48 (λ e. omega arith), and_both (le-leb 48 b (omega arith)) (and_right (leb 49 b) (leb b 57) h))

module _ (s : List ℕ) (i : ℕ) (t r : List ℕ) (h : drop i s ≡ t ++ r) where
  first-is : {p : ℕ → Bool} {A : Language} → Tests p A → (A · Many Digit) t → is_digit (byte_at r 0) ≡ false
      → (p (byte_at s i) ≡ true) × (past is_digit s (i + 1) ≡ i + length t)
  first-is x g k =
      let (b, e, st, l, hb) = one_then x s i t r h g in
      let q : past is_digit s (i + 1) ≡ i + 1 + length b = past_is digit refl s (i + 1) b r st hb k in
      (e, omega arith)

  some_is : OneOrMore Digit t → is_digit (byte_at r 0) ≡ false → some_digits s i ≡ Some (i + length t)
  unfolding some_digits
  some_is g k = let (e, q) = first-is digit g k in rw e (ap Some q)

  integer-is : Int t → is_digit (byte_at r 0) ≡ false → integer s i ≡ Some (i + length t)
  unfolding integer some_digits
  integer-is g k = ⊎_elim
      (λ (z : Sign "0" t). let (e, st, l) = one-is (tests-sign "0") s i t r h z in rw (e, l))
      (λ (z : (Range "1" "9" · Many Digit) t).
      let (e, q) = first-is not-zero z k in
      let (n, d) = nonzero (byte_at s i) e in
      rw (n, d) (ap Some q))
      g

  minus_is : Optional (Sign "-") t → is "-" (byte_at r 0) ≡ false → minus s i ≡ i + length t
  unfolding minus
  minus_is g k = ⊎_elim
      (λ (z : t ≡ []). rw (stands-byte s i r (rw z at h), k, z) (omega arith))
      (λ (z : Sign "-" t). let (e, st, l) = one-is (tests-sign "-") s i t r h z in rw (e, l))
      g

  signed_is : Optional (OneOf "-+") t → (is "+" (byte_at r 0) ≡ false) × (is "-" (byte_at r 0) ≡ false) → signed s i ≡ i + length t
  unfolding signed
  signed_is g (k₁, k₂) = ⊎_elim
      (λ (z : t ≡ []). rw (stands-byte s i r (rw z at h), k₁, k₂, z) (omega arith))
      (λ (z : OneOf "-+" t). let (e, st, l) = one-is sign s i t r h z in rw (e, l))
      g

-- no sign is a digit
unsigned : (b : ℕ) → is_digit b ≡ true → (is "+" b ≡ false) × (is "-" b ≡ false)
unsigned b h = let l = digit-bounds b h in (ne_eqb b 43 (λ e. omega arith), ne_eqb b 45 (λ e. omega arith))

module _ (s : List ℕ) (i : ℕ) (t r : List ℕ) (h : drop i s ≡ t ++ r) (d : is_digit (byte_at r 0) ≡ false) where
  fraction-is : Optional Frac t → is "." (byte_at r 0) ≡ false → fraction s i ≡ Some (i + length t)
  unfolding fraction
  fraction-is g k = ⊎_elim
      (λ (z : t ≡ []). rw (stands-byte s i r (rw z at h), k, z) (ap Some (omega arith)))
      (λ (z : Frac t).
      let (b, e, st, l, hb) = one_then (tests-sign ".") s i t r h z in
      let x : some_digits s (i + 1) ≡ Some (i + length t) = some_is s (i + 1) b r st hb d ∙ ap Some (omega arith) in
      rw e x)
      g

  exponent-is : Optional Exp t → is "e" (byte_at r 0) ≡ false → is "E" (byte_at r 0) ≡ false → exponent s i ≡ Some (i + length t)
  unfolding exponent
  exponent-is g k₁ k₂ = ⊎_elim
      (λ (z : t ≡ []). rw (stands-byte s i r (rw z at h), k₁, k₂, z) (ap Some (omega arith)))
      (λ (z : Exp t).
      let (b, e, st, l, (a, c, eb, ha, hc)) = one_then letter s i t r h z in
      let sa : drop (i + 1) s ≡ a ++ (c ++ r) = stands_parts s (i + 1) b a c r eb st in
      let q = signed_is s (i + 1) a (c ++ r) sa ha (unsigned (byte_at (c ++ r) 0) (first_passes digit (Many Digit) c r hc)) in
      let m : length b ≡ length a + length c = ap length eb ∙ length-append a c in
      let y = some_is s (i + 1 + length a) c r (stands-next s (i + 1) a (c ++ r) sa) hc d in
      let x : some_digits s (signed s (i + 1)) ≡ Some (i + length t) = ap (some_digits s) q ∙ y ∙ ap Some (omega arith) in
      rw e x)
      g

-- nothing that would go on with a number stands first
abbrev pub Ends : List ℕ → Type 0
Ends r = (is_digit (byte_at r 0) ≡ false) × (is "." (byte_at r 0) ≡ false) × (is "e" (byte_at r 0) ≡ false) × (is "E" (byte_at r 0) ≡ false)

-- a number begins with a minus or a digit
int-head : (t : List ℕ) → Int t → (b : ℕ) × (u : List ℕ) × (t ≡ b ∷ u) × (is_digit b ≡ true)
int-head t = ⊎_elim
    (λ e. (48, [], e, refl))
    (λ ((a, u, e, ha, hu) : (Range "1" "9" · Many Digit) t). let (b, q, k) = not-zero.takes a ha in (b, u, rw q at e, (nonzero b k).1))

pub number-head : (t : List ℕ) → Number t → (b : ℕ) × (u : List ℕ) × (t ≡ b ∷ u) × ((is "-" b || is_digit b) ≡ true)
number-head t (a, v, e, ha, (c, w, ev, hc, hw)) = ⊎_elim
    (λ (z : a ≡ []). let (b, u, q, k) = int-head c hc in (b, u ++ w, rw (z, ev, q) at e, or-given (is "-" b) (is_digit b) (λ n. k)))
    (λ (z : a ≡ 45 ∷ []). (45, v, rw z at e, refl))
    ha

-- what an exponent begins with and what stands after it both fail a test: so does the first byte, whether or not there is an exponent. Likewise
-- a fraction
exp-stops : (q : ℕ → Bool) → q 101 ≡ false → q 69 ≡ false → (t r : List ℕ) → Optional Exp t → q (byte_at r 0) ≡ false → q (byte_at (t ++ r) 0) ≡ false
exp-stops q k₁ k₂ t r g k = ⊎_elim
    (λ (z : t ≡ []). rw z k)
    (λ (z : Exp t). rw z.2 (⊎_elim (λ (y : z.0 ≡ 101 ∷ []). rw y k₁) (⊎_elim (λ (y : z.0 ≡ 69 ∷ []). rw y k₂) (λ y. absurd y)) z.3))
    g

frac-stops : (t r : List ℕ) → Optional Frac t → is_digit (byte_at r 0) ≡ false → is_digit (byte_at (t ++ r) 0) ≡ false
frac-stops t r g k = ⊎_elim (λ (z : t ≡ []). rw z k) (λ (z : Frac t). rw (z.2, z.3)) g

pub number_is : (s : List ℕ) (i : ℕ) (t r : List ℕ) → drop i s ≡ t ++ r → Number t → Ends r → number s i ≡ Some (i + length t)
unfolding number
number_is s i t r h (a, t₁, e₁, ha, (b, t₂, e₂, hb, (c, d, e₃, hc, hd))) (k₀, k₁, k₂, k₃) =
    let st₀ : drop i s ≡ a ++ (t₁ ++ r) = stands_parts s i t a t₁ r e₁ h in
    let st₁ = stands_parts s (i + length a) t₁ b t₂ r e₂ (stands-next s i a (t₁ ++ r) st₀) in
    let st₂ = stands_parts s (i + length a + length b) t₂ c d r e₃ (stands-next s (i + length a) b (t₂ ++ r) st₁) in
    let st₃ = stands-next s (i + length a + length b) c (d ++ r) st₂ in
    let g : is_digit (byte_at (t₁ ++ r) 0) ≡ true = let (y, u, q, k) = int-head b hb in rw (e₂, q) k in
    let d₂ : is_digit (byte_at (d ++ r) 0) ≡ false = exp-stops is_digit refl refl d r hd k₀ in
    let d₁ : is_digit (byte_at (t₂ ++ r) 0) ≡ false = rw (e₃, append_assoc c d r) (frac-stops c (d ++ r) hc d₂) in
    let m = minus_is s i a (t₁ ++ r) st₀ ha (unsigned (byte_at (t₁ ++ r) 0) g).1 in
    let n = integer-is s (i + length a) b (t₂ ++ r) st₁ hb d₁ in
    let f = fraction-is s (i + length a + length b) c (d ++ r) st₂ d₂ hc (exp-stops (is ".") refl refl d r hd k₁) in
    let x = exponent-is s (i + length a + length b + length c) d r st₃ k₀ hd k₂ k₃ in
    let l₁ : length t ≡ length a + length t₁ = ap length e₁ ∙ length-append a t₁ in
    let l₂ : length t₁ ≡ length b + length t₂ = ap length e₂ ∙ length-append b t₂ in
    let l₃ : length t₂ ≡ length c + length d = ap length e₃ ∙ length-append c d in
    rw (m, n, f, x) (ap Some (omega arith))

-- ---- what is read is of the grammar
module _ (s : List ℕ) where
  first_then : {p : ℕ → Bool} {A : Language} → Tests p A → (i : ℕ) → p 0 ≡ false → p (byte_at s i) ≡ true
      → Reads (A · Many Digit) s i (past is_digit s (i + 1))
  first_then x i z k = reads_then s i (i + 1) (past is_digit s (i + 1)) (one_found x s i (i + 1) z refl k) (past-found digit refl s (i + 1)).0

  some-found : (i e : ℕ) → some_digits s i ≡ Some e → (is_digit (byte_at s i) ≡ true) × (past is_digit s (i + 1) ≡ e)
  unfolding some_digits
  some-found i e h = split (is_digit (byte_at s i)) (λ t. (t, to_same refl (rw t at h))) (λ t. to-bad (rw t at h) refl)

  some-reads : (i e : ℕ) → some_digits s i ≡ Some e → Reads (OneOrMore Digit) s i e
  some-reads i e h = let (k, q) = some-found i e h in rw q at (first_then digit i refl k)

  minus-reads : (i : ℕ) → Reads (Optional (Sign "-")) s i (minus s i)
  unfolding minus
  minus-reads i = split (is "-" (byte_at s i))
      (λ t. rw t (reads_as s i (i + 1) (λ u h. inr h) (one_found (tests-sign "-") s i (i + 1) refl refl t)))
      (λ t. rw t (reads_none s i i refl (inl refl)))

  fraction-reads : (i e : ℕ) → fraction s i ≡ Some e → Reads (Optional Frac) s i e
  unfolding fraction
  fraction-reads i e h = split (is "." (byte_at s i))
      (λ t. reads_as s i e (λ u h. inr h)
      (reads_then s i (i + 1) e (one_found (tests-sign ".") s i (i + 1) refl refl t) (some-reads (i + 1) e (rw t at h))))
      (λ t. reads_none s i e (to_same refl (rw t at h)) (inl refl))

  pub integer-reads : (i e : ℕ) → integer s i ≡ Some e → Reads Int s i e
  unfolding integer
  integer-reads i e h = split (is "0" (byte_at s i))
      (λ t. reads_as s i e (λ u h. inl h) (one_found (tests-sign "0") s i e refl (sym (to_same refl (rw t at h))) t))
      (λ t.
      let (k, q) = some-found i e (rw t at h) in
      let l = digit-bounds (byte_at s i) k in
      let n : byte_at s i ≡ 48 → ⊥ = eqb-false (byte_at s i) 48 t in
      let r = and_both (le-leb 49 (byte_at s i) (omega arith)) (le-leb (byte_at s i) 57 l.1) in
      reads_as s i e (λ u h. inr h) (rw q at (first_then not-zero i refl r)))

  signed_reads : (i : ℕ) → Reads (Optional (OneOf "-+")) s i (signed s i)
  unfolding signed
  signed_reads i = split (is "+" (byte_at s i) || is "-" (byte_at s i))
      (λ t. rw t (reads_as s i (i + 1) (λ u h. inr h) (one_found sign s i (i + 1) refl refl t)))
      (λ t. rw t (reads_none s i i refl (inl refl)))

  exponent-reads : (i e : ℕ) → exponent s i ≡ Some e → Reads (Optional Exp) s i e
  unfolding exponent
  exponent-reads i e h = split (is "e" (byte_at s i) || is "E" (byte_at s i))
      (λ t. reads_as s i e (λ u h. inr h) (reads_then s i (i + 1) e (one_found letter s i (i + 1) refl refl t)
      (reads_then s (i + 1) (signed s (i + 1)) e (signed_reads (i + 1)) (some-reads (signed s (i + 1)) e (rw t at h)))))
      (λ t. reads_none s i e (to_same refl (rw t at h)) (inl refl))

  pub number-found : (i e : ℕ) → number s i ≡ Some e → Reads Number s i e
  unfolding number
  number-found i e h =
      let (m, p, h₂) = and-then (integer s (minus s i)) _ e h in
      let (n, q, r) = and-then (fraction s m) (exponent s) e h₂ in
      reads_then s i (minus s i) e (minus-reads i)
      (reads_then s (minus s i) m e (integer-reads (minus s i) m p) (reads_then s m n e (fraction-reads m n q) (exponent-reads n e r)))
