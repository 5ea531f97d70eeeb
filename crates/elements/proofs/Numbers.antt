-- `id_of` takes the digits of each number from 1 to 2^53 for that number, and no other text for an ID. Assumes nothing.
use Prim.Native.Nat.{ℕ, zero, suc, ◌+◌, ◌-◌, ◌*◌, ◌/◌, ◌%◌, ◌^◌, ◌≤◌, ◌<◌}
use mathlib.Core.Bool.{true, ◌&&◌}
use mathlib.Core.List.{List, [], ◌∷◌, ◌++◌, append_assoc, append-nil}
use mathlib.Core.Logic.{◌↔◌}
use mathlib.Core.Path.{◌≡◌, refl, sym, ap, ◌∙◌}
use native.Mathlib.Decide.{dec_lt}
use native.Mathlib.Nat.{zero-add}
use native.Mathlib.Omega.{arith}
use borrow.Author.Tests.{le-leb, leb-true, ne_eqb, eqb-false}
use lib.Dec.{eqb, leb}
use Rattle.seq.specs.Bytes.{is_digit, byte_at}
use Rattle.seq.specs.Decimal.{decimal}
use Rattle.seq.specs.Lists.{every}
use Rattle.seq.specs.Numbers.{last_id}
use Rattle.seq.proofs.Bytes.{digit-bounds}
use Rattle.seq.proofs.Digits.{decimal-small, decimal-more}
use Rattle.seq.proofs.Lists.{every-snoc}
use Rattle.seq.proofs.Logic.{split, and_left, and_right}
use Rattle.elements.specs.Kinds.{decimal as value, id_from, id_of}
use Rattle.elements.proofs.IdLaws.{decimal-more as value-most}

-- ---- the digits of a number stand for it
value-snoc : (v : ℕ) (t : List ℕ) (b : ℕ) → value v (t ++ (b ∷ [])) ≡ value v t * 10 + (b - 48)
unfolding value
value-snoc v [] b = refl
value-snoc v (x ∷ t) b = value-snoc (v * 10 + (x - 48)) t b

first-snoc : (t : List ℕ) (b : ℕ) → 0 < byte_at t 0 → byte_at (t ++ (b ∷ [])) 0 ≡ byte_at t 0
first-snoc [] b h = absurd (omega arith)
first-snoc (x ∷ t) b h = refl

pub record Spelled (n : ℕ) : Type 0 where
  pub digits : every is_digit (decimal n) ≡ true
  pub stands : value 0 (decimal n) ≡ n
  pub first : 1 ≤ n → 49 ≤ byte_at (decimal n) 0

digit-is : (d : ℕ) → d < 10 → is_digit (48 + d) ≡ true
digit-is d h = rw (le-leb 48 (48 + d) (omega arith), le-leb (48 + d) 57 (omega arith))

spelled : (k n : ℕ) → n < k → n < 2 ^ 64 → Spelled n
unfolding every value
spelled zero n l h = absurd (omega arith)
spelled (suc k) n l h = elim (dec_lt n 10) [
  | yes p ↦ record {
    digits = rw (decimal-small n p, digit-is (n % 10) (omega arith));
    stands = rw (decimal-small n p) (omega arith);
    first = λ q. rw (decimal-small n p) (omega arith);
  }
  | no p ↦ (let r = spelled k (n / 10) (omega arith) (omega arith) in
      let f = r.first (omega arith) in
      let e = decimal-more n h (omega arith) in
      record {
        digits = rw e (every-snoc is_digit (decimal (n / 10)) (48 + n % 10) r.digits ∙ digit-is (n % 10) (omega arith));
        stands = ap (value 0) e ∙ value-snoc 0 (decimal (n / 10)) (48 + n % 10) ∙ rw r.stands (omega arith);
        first = λ q. rw (e, first-snoc (decimal (n / 10)) (48 + n % 10) (omega arith)) f;
      })
]

written : (n : ℕ) → 1 ≤ n → n ≤ last_id → id_of (decimal n) ≡ n
unfolding id_of id_from
written n g h =
    let s = spelled (suc n) n (omega arith) (omega arith) in
    let f = s.first g in
    rw (ne_eqb (byte_at (decimal n) 0) 48 (λ e. omega arith), s.digits, s.stands, le-leb n last_id h)

-- ---- and no other text does
-- what a text that is an ID has
pub record Digits (t : List ℕ) (n : ℕ) : Type 0 where
  pub first : byte_at t 0 ≡ 48 → ⊥
  pub digits : every is_digit t ≡ true
  pub stands : value 0 t ≡ n
  pub most : n ≤ last_id

digits_of : (t : List ℕ) (n : ℕ) → id_of t ≡ n → 1 ≤ n → Digits t n
unfolding id_of id_from
digits_of t n e g =
    split (eqb (byte_at t 0) 48)
    (λ z. absurd (let q : 0 ≡ n = rw z at e in omega arith))
    λ z. split (every is_digit t && leb (value 0 t) last_id)
    (λ d.
    let q : value 0 t ≡ n = rw (z, d) at e in
    let m = leb-true (value 0 t) last_id (and_right (every is_digit t) _ d) in
    record { first = eqb-false (byte_at t 0) 48 z; digits = and_left (every is_digit t) _ d; stands = q; most = omega arith })
    (λ d. absurd (let q : 0 ≡ n = rw (z, d) at e in omega arith))

-- digits that come after those of v
more-digits : (v : ℕ) (t : List ℕ) → 1 ≤ v → every is_digit t ≡ true → value v t ≤ last_id → decimal (value v t) ≡ decimal v ++ t
unfolding every value
more-digits v [] g e h = sym (append-nil (decimal v))
more-digits v (b ∷ bs) g e h =
    let d = digit-bounds b (and_left (is_digit b) _ e) in
    let low = d.0 in
    let high = d.1 in
    let m = value-most (v * 10 + (b - 48)) bs in
    let w : ℕ = v * 10 + (b - 48) in
    let q : w / 10 ≡ v = omega arith in
    let r : 48 + w % 10 ≡ b = omega arith in
    let one : decimal w ≡ decimal v ++ (b ∷ []) = decimal-more w (omega arith) (omega arith) ∙ rw (q, r) in
    more-digits w bs (omega arith) (and_right (is_digit b) _ e) h ∙ ap (λ l. l ++ bs) one ∙ append_assoc (decimal v) (b ∷ []) bs

only-digits : (t : List ℕ) (n : ℕ) → 1 ≤ n → Digits t n → t ≡ decimal n
unfolding every value
only-digits [] n g d = absurd (omega (arith, d.stands))
only-digits (b ∷ t) n g d =
    let c = digit-bounds b (and_left (is_digit b) _ d.digits) in
    let low = c.0 in
    let high = c.1 in
    let f = d.first in
    let m = d.most in
    let s : value (b - 48) t ≡ n = ap (λ v. value v t) (sym (zero-add (b - 48))) ∙ d.stands in
    let one : decimal (b - 48) ≡ b ∷ [] = decimal-small (b - 48) (omega arith) ∙ ap (λ k. k ∷ []) (omega arith) in
    sym (ap decimal (sym s) ∙ more-digits (b - 48) t (omega arith) (and_right (is_digit b) _ d.digits) (omega arith) ∙ ap (λ l. l ++ t) one)

only : (t : List ℕ) (n : ℕ) → id_of t ≡ n → 1 ≤ n → (t ≡ decimal n) × (n ≤ last_id)
only t n e g = let d = digits_of t n e g in (only-digits t n g d, d.most)

-- ---- the statements
pub record Numbers : Type 0 where
  pub written : (n : ℕ) → 1 ≤ n → n ≤ 9007199254740992 → id_of (decimal n) ≡ n
  pub only : (t : List ℕ) (n : ℕ) → id_of t ≡ n → 1 ≤ n → (t ≡ decimal n) × (n ≤ 9007199254740992)

pub numbers : Numbers
numbers = record { written = written; only = only }

-- a text is an ID's exactly if it is its digits
pub id-is : (t : List ℕ) (n : ℕ) → 1 ≤ n → n ≤ last_id → id_of t ≡ n ↔ (t ≡ decimal n)
id-is t n g h = (λ e. (only t n e g).0, λ e. ap id_of e ∙ written n g h)
