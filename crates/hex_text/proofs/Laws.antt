-- Hex digits, range by range; the bytes that digits give, one by one. Assumes nothing.
use Prim.Native.Nat.{ℕ, ◌+◌, ◌-◌, ◌*◌, ◌%◌, ◌≤◌, ◌<◌}
use mathlib.Core.Path.{◌≡◌, refl, sym, ap, ◌∙◌}
use mathlib.Core.Bool.{false}
use mathlib.Core.List.{List, [], ◌∷◌, ◌++◌, append_assoc, append-nil}
use native.Mathlib.Numerals.{add-one}
use native.Mathlib.Omega.{arith}
use borrow.Author.Tests.{eq-eqb, ne_eqb, lt-ltb, le-ltb}
use lib.ListN.{length, take, drop, set, take-append-drop, drop_of_length-le, length-append, length-set}
use lib.Seq.{take-suc-set, drop-set-lt, take_all, take-append-le, length-take-le, get_or-drop, drop-drop}
use Rattle.seq.specs.Bytes.{byte_at}
use Rattle.seq.specs.Lists.{every}
use Rattle.seq.proofs.Lists.{every-fail, every-pass}
use Rattle.hex_text.specs.Hex.{hex_value, is_hex, is_whole, bytes_of, filled}

pub value-below : (b : ℕ) → b < 48 → hex_value b ≡ 16
unfolding hex_value
value-below b h = rw (lt-ltb b 48 h)

pub value-digit : (b : ℕ) → 48 ≤ b → b < 58 → hex_value b ≡ b - 48
unfolding hex_value
value-digit b h k = rw (le-ltb b 48 h, lt-ltb b 58 k)

-- a byte above the digits
module _ (b : ℕ) (h : 48 ≤ b) (k : 58 ≤ b) where
  pub value-between : b < 65 → hex_value b ≡ 16
  unfolding hex_value
  value-between l = rw (le-ltb b 48 h, le-ltb b 58 k, lt-ltb b 65 l)

  pub value-capital : 65 ≤ b → b < 71 → hex_value b ≡ b - 55
  unfolding hex_value
  value-capital l m = rw (le-ltb b 48 h, le-ltb b 58 k, le-ltb b 65 l, lt-ltb b 71 m)

  -- and above the capitals
  module _ (l : 65 ≤ b) (m : 71 ≤ b) where
    pub value_after : b < 97 → hex_value b ≡ 16
    unfolding hex_value
    value_after n = rw (le-ltb b 48 h, le-ltb b 58 k, le-ltb b 65 l, le-ltb b 71 m, lt-ltb b 97 n)

    pub value-letter : 97 ≤ b → b < 103 → hex_value b ≡ b - 87
    unfolding hex_value
    value-letter n o = rw (le-ltb b 48 h, le-ltb b 58 k, le-ltb b 65 l, le-ltb b 71 m, le-ltb b 97 n, lt-ltb b 103 o)

    pub value-above : 97 ≤ b → 103 ≤ b → hex_value b ≡ 16
    unfolding hex_value
    value-above n o = rw (le-ltb b 48 h, le-ltb b 58 k, le-ltb b 65 l, le-ltb b 71 m, le-ltb b 97 n, le-ltb b 103 o)

-- ---- whole bytes: d is the value of the byte at i
module _ (s : List ℕ) (i d : ℕ) (h : i < length s) (e : d ≡ hex_value (byte_at s i)) where
  pub digits-fail : 15 < d → every is_hex (drop i s) ≡ false
  digits-fail k = every-fail is_hex s i 0 h (rw (sym e) (le-ltb d 16 k))

  pub digits-pass : d ≤ 15 → every is_hex (drop i s) ≡ every is_hex (drop (i + 1) s)
  digits-pass k = every-pass is_hex s i 0 h (rw (sym e) (lt-ltb d 16 (omega arith)))

module _ (s : List ℕ) where
  pub whole-odd : (length s % 2 ≡ 0 → ⊥) → is_whole s ≡ false
  unfolding is_whole
  whole-odd n = rw (ne_eqb (length s % 2) 0 n)

  pub whole-even : length s % 2 ≡ 0 → is_whole s ≡ every is_hex s
  unfolding is_whole
  whole-even e = rw (eq-eqb (length s % 2) 0 e)

-- ---- the bytes that digits give
no-high : (s : List ℕ) → 15 < hex_value (byte_at s 0) → bytes_of s ≡ []
unfolding bytes_of hex_value
no-high [] h = refl
no-high (a ∷ []) h = refl
no-high (a ∷ (b ∷ s)) h = rw (le-ltb (hex_value a) 16 h)

no-low : (s : List ℕ) → hex_value (byte_at s 0) ≤ 15 → 15 < hex_value (byte_at s 1) → bytes_of s ≡ []
unfolding bytes_of hex_value
no-low [] g h = refl
no-low (a ∷ []) g h = refl
no-low (a ∷ (b ∷ s)) g h = rw (lt-ltb (hex_value a) 16 (omega arith), le-ltb (hex_value b) 16 h)

both : (s : List ℕ) → hex_value (byte_at s 0) ≤ 15 → hex_value (byte_at s 1) ≤ 15
    → bytes_of s ≡ (hex_value (byte_at s 0) * 16 + hex_value (byte_at s 1)) ∷ bytes_of (drop 2 s)
unfolding bytes_of hex_value
both [] g h = absurd (omega arith)
both (a ∷ []) g h = absurd (omega arith)
both (a ∷ (b ∷ s)) g h = rw (lt-ltb (hex_value a) 16 (omega arith), lt-ltb (hex_value b) 16 (omega arith))

-- n bytes of the digits stand at the start of the buffer, and the rest of it is as it was
pub record Reading (hex start out : List ℕ) (n : ℕ) : Type 0 where
  pub whole : bytes_of hex ≡ take n out ++ bytes_of (drop (2 * n) hex)
  pub size : length out ≡ length start
  pub rest : drop n out ≡ drop n start
  pub within : n ≤ length out

pub begins : (hex start : List ℕ) → Reading hex start start 0
begins hex start = record { whole = refl; size = refl; rest = refl; within = omega arith }

-- what is answered, and what the buffer is, where the digits give no more or the buffer has no more room
pub record Ended (hex start out : List ℕ) (n : ℕ) : Type 0 where
  pub count : n ≡ length (take (length start) (bytes_of hex))
  pub bytes : out ≡ filled start (bytes_of hex)

module _ (hex start out : List ℕ) (n : ℕ) (r : Reading hex start out n) where
  high-at : byte_at (drop (2 * n) hex) 0 ≡ byte_at hex (2 * n)
  high-at = get_or-drop (2 * n) hex 0 0 ∙ (let z : 2 * n + 0 ≡ 2 * n = omega arith in rw z)

  low-at : byte_at (drop (2 * n) hex) 1 ≡ byte_at hex (2 * n + 1)
  low-at = get_or-drop (2 * n) hex 1 0

  front : length (take n out) ≡ n
  front = length-take-le n out r.within

  stopped : bytes_of (drop (2 * n) hex) ≡ [] → Ended hex start out n
  unfolding filled
  stopped e =
      let w : bytes_of hex ≡ take n out = r.whole ∙ ap (λ l. take n out ++ l) e ∙ append-nil (take n out) in
      let k : take (length start) (take n out) ≡ take n out = take_all (length start) (take n out) (omega (arith, front, r.within, r.size)) in
      record {
        count = rw (w, k) (sym front);
        bytes = rw (w, k, front) (sym (take-append-drop n out) ∙ ap (λ l. take n out ++ l) r.rest);
      }

  pub high-stops : 15 < hex_value (byte_at hex (2 * n)) → Ended hex start out n
  high-stops h = stopped (no-high (drop (2 * n) hex) (rw high-at h))

  pub low-stops : hex_value (byte_at hex (2 * n)) ≤ 15 → 15 < hex_value (byte_at hex (2 * n + 1)) → Ended hex start out n
  low-stops g h = stopped (no-low (drop (2 * n) hex) (rw high-at g) (rw low-at h))

  pub full : length out ≤ n → Ended hex start out n
  unfolding filled
  full h =
      let a : take n out ≡ out = take_all n out h in
      let w : bytes_of hex ≡ out ++ bytes_of (drop (2 * n) hex) = r.whole ∙ ap (λ l. l ++ bytes_of (drop (2 * n) hex)) a in
      let t : take (length start) (out ++ bytes_of (drop (2 * n) hex)) ≡ out = take-append-le (length start) out _ (omega (arith, r.size)) ∙ take_all (length start) out (omega (arith, r.size)) in
      let d : drop (length (out ++ bytes_of (drop (2 * n) hex))) start ≡ [] = drop_of_length-le start {i = length (out ++ bytes_of (drop (2 * n) hex))} (simp length-append (omega (arith, r.size))) in
      record {
        count = rw (w, t) (omega (arith, r.within));
        bytes = rw (w, t, d) (sym (append-nil out));
      }

  pub more : (v : ℕ) → n < length out → hex_value (byte_at hex (2 * n)) ≤ 15 → hex_value (byte_at hex (2 * n + 1)) ≤ 15
      → v ≡ hex_value (byte_at hex (2 * n)) * 16 + hex_value (byte_at hex (2 * n + 1)) → Reading hex start (set out n v) (n + 1)
  more v i g h e =
      let b = both (drop (2 * n) hex) (rw high-at g) (rw low-at h) in
      let d : drop 2 (drop (2 * n) hex) ≡ drop (2 * (n + 1)) hex = drop-drop 2 (2 * n) hex ∙ (let z : 2 * n + 2 ≡ 2 * (n + 1) = omega arith in rw z) in
      let t : take (n + 1) (set out n v) ≡ take n out ++ (v ∷ []) = rw add-one (take-suc-set out n v i) in
      record {
        whole = r.whole ∙ rw (b, high-at, low-at, ← e, d, t) (sym (append_assoc (take n out) (v ∷ []) _));
        size = length-set out n v ∙ r.size;
        rest = drop-set-lt (n + 1) out n v (omega arith) ∙ sym (drop-drop 1 n out) ∙ ap (drop 1) r.rest ∙ drop-drop 1 n start;
        within = simp length-set (omega arith);
      }
