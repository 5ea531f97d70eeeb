-- Integers as the code reads them. Assumes nothing.
use Rattle.std.specs.Prelude.{Option, Some, None}
use Prim.Native.Nat.{ℕ, zero, suc, ◌+◌, ◌*◌, ◌-◌, ◌≤◌, ◌<◌}
use mathlib.Core.Bool.{Bool, true, false, cond}
use mathlib.Core.List.{List, [], ◌∷◌}
use mathlib.Core.Path.{◌≡◌, refl, sym, ap, ◌∙◌}
use native.Mathlib.Numerals.{add-one}
use native.Mathlib.Omega.{arith}
use borrow.Author.Tests.{lt-ltb, le-ltb, eqb-true, ne_eqb}
use lib.Dec.{eqb, ltb}
use lib.ListN.{length, take, drop, drop_of_length-le}
use lib.Seq.{drop-cons}
use Rattle.seq.specs.Bytes.{is, is_digit, byte_at, part}
use Rattle.seq.specs.Lists.{every}
use Rattle.seq.proofs.Bytes.{digit-bounds, byte-in}
use Rattle.seq.proofs.Logic.{split, and_left, and_right, clash}
use Rattle.lex.specs.Lex.{run, past, some_digits, integer}
use Rattle.lex.proofs.Stands.{to_same, to-bad}
use Rattle.elements.specs.Kinds.{decimal as natural}
use Rattle.elements.proofs.IdLaws.{decimal-more}
use Rattle.values.specs.Stands.{whole_at}
use Rattle.to_msgpack.specs.declared.Integer.{Integer}
use Rattle.to_msgpack.specs.Integers.{goes_on, bounded, ending, small}

-- ---- the loop: n is the number read so far, i the place
pub number-over : (n : ℕ) (t : List ℕ) (i : ℕ) → i < length t → (d : ℕ) → d ≡ byte_at t i - 48 → 0x10000000000000000 ≤ n * 10 + d
    → None ≡ bounded (natural n (drop i t))
unfolding bounded natural
number-over n t i l d e h =
    let m = decimal-more (n * 10 + (byte_at t i - 48)) (drop (suc i) t) in
    rw (drop-cons t i 0 l, le-ltb (natural (n * 10 + (byte_at t i - 48)) (drop (suc i) t)) 0x10000000000000000 (omega arith))

pub number-next : (n : ℕ) (t : List ℕ) (i : ℕ) → i < length t → (d : ℕ) → d ≡ byte_at t i - 48 → natural n (drop i t) ≡ natural (n * 10 + d) (drop (i + 1) t)
unfolding natural
number-next n t i l d e = rw (e, drop-cons t i 0 l, add-one)

pub number-end : (n : ℕ) (t : List ℕ) (i : ℕ) → length t ≤ i → n < 0x10000000000000000 → Some n ≡ bounded (natural n (drop i t))
unfolding bounded natural
number-end n t i l h = rw (drop_of_length-le t {i = i} l, lt-ltb n 0x10000000000000000 h)

pub every-at : (p : ℕ → Bool) (t : List ℕ) (i : ℕ) → every p t ≡ true → i < length t → p (byte_at t i) ≡ true
unfolding every
every-at p [] i h l = absurd (omega arith)
every-at p (x ∷ t) zero h l = and_left (p x) (every p t) h
every-at p (x ∷ t) (suc i) h l = every-at p t i (and_right (p x) (every p t) h) (omega arith)

pub digit_low : (t : List ℕ) (i : ℕ) → every is_digit t ≡ true → i < length t → (48 ≤ byte_at t i) × (byte_at t i ≤ 57)
digit_low t i h l = digit-bounds (byte_at t i) (every-at is_digit t i h l)

-- ---- digits
every-run : (p : ℕ → Bool) (t : List ℕ) → every p (take (run p t) t) ≡ true
unfolding every run
every-run p [] = refl
every-run p (x ∷ t) = split (p x) (λ h. rw (h, h) (every-run p t)) (λ h. rw h)

digits-part : (s : List ℕ) (at e : ℕ) → is_digit (byte_at s at) ≡ true → e ≡ past is_digit s (at + 1) → every is_digit (part at e s) ≡ true
unfolding every past
digits-part s at e h q =
    let l : at < length s = byte-in s at (let b = digit-bounds (byte_at s at) h in omega arith) in
    let z : e - at ≡ suc (run is_digit (drop (suc at) s)) = omega (arith, q ∙ ap (λ (k : ℕ). at + 1 + run is_digit (drop k s)) (add-one at)) in
    rw (z, drop-cons s at 0 l, h) (every-run is_digit (drop (suc at) s))

pub integer-digits : (s : List ℕ) (at e : ℕ) → integer s at ≡ Some e → every is_digit (part at e s) ≡ true
unfolding integer some_digits every
integer-digits s at e h =
    split (is "0" (byte_at s at))
    (λ t.
    let b = eqb-true (byte_at s at) 48 t in
    let l : at < length s = byte-in s at (omega arith) in
    let q : at + 1 ≡ e = to_same refl (rw t at h) in
    let z : e - at ≡ 1 = omega arith in
    rw (z, drop-cons s at 0 l, b))
    (λ t. split (is_digit (byte_at s at))
    (λ d. digits-part s at e d (sym (to_same refl (rw (t, d) at h))))
    (λ d. to-bad (rw (t, d) at h) refl))

-- ---- a byte that begins a fraction or an exponent
module _ (b : ℕ) where
  pub goes-dot : b ≡ 46 → true ≡ goes_on b
  goes-dot e = rw e

  pub goes-large : b ≡ 69 → true ≡ goes_on b
  goes-large e = rw e

  pub goes_small : b ≡ 101 → true ≡ goes_on b
  goes_small e = rw e

  pub goes-not : (b ≡ 46 → ⊥) → (b ≡ 69 → ⊥) → (b ≡ 101 → ⊥) → false ≡ goes_on b
  goes-not p q r = rw (ne_eqb b 46 p, ne_eqb b 69 q, ne_eqb b 101 r)

-- ---- an integer without its sign
abbrev is_number : Option ℕ → Bool
is_number (Some n) = true
is_number None = false

abbrev number_of : Option ℕ → ℕ
number_of (Some n) = n
number_of None = 0

bounded-over : (n e : ℕ) → bounded n ≡ None → None ≡ cond {A = Option Integer} (ltb n 0x10000000000000000) (Some (ending n e)) None
unfolding bounded
bounded-over n e o =
    split (ltb n 0x10000000000000000)
    (λ t. let z : ◌≡◌ {A = Option ℕ} (Some n) None = rw t at o in clash (sym (ap is_number z)) refl)
    (λ t. rw t)

bounded-is : (n k e : ℕ) → bounded n ≡ Some k → Some (ending k e) ≡ cond {A = Option Integer} (ltb n 0x10000000000000000) (Some (ending n e)) None
unfolding bounded
bounded-is n k e o =
    split (ltb n 0x10000000000000000)
    (λ t. let z : ◌≡◌ {A = Option ℕ} (Some n) (Some k) = rw t at o in rw t (ap (λ (i : ℕ). Some (ending i e)) (sym (ap number_of z))))
    (λ t. let z : ◌≡◌ {A = Option ℕ} None (Some k) = rw t at o in clash refl (sym (ap is_number z)))

module _ (s : List ℕ) (at : ℕ) where
  pub whole-none : integer s at ≡ None → None ≡ small (whole_at s at)
  unfolding whole_at
  whole-none e = rw e

  module _ (e : ℕ) (h : integer s at ≡ Some e) where
    pub whole-goes-on : goes_on (byte_at s e) ≡ true → None ≡ small (whole_at s at)
    unfolding whole_at
    whole-goes-on g = rw (h, g)

    module _ (g : goes_on (byte_at s e) ≡ false) (r : Option ℕ) (q : r ≡ bounded (natural 0 (part at e s))) where
      pub whole-over : r ≡ None → None ≡ small (whole_at s at)
      unfolding whole_at
      whole-over o = rw (h, g) (bounded-over (natural 0 (part at e s)) e (sym q ∙ o))

      pub whole_is : (n : ℕ) → r ≡ Some n → Some (ending n e) ≡ small (whole_at s at)
      unfolding whole_at
      whole_is n o = rw (h, g) (bounded-is (natural 0 (part at e s)) n e (sym q ∙ o))
