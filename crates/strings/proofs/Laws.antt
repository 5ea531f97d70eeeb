-- Laws of specs/Strings.antt and specs/Places.antt, for the code. Assumes nothing.
use Prim.Native.Nat.{ℕ, ◌+◌, ◌*◌, ◌-◌, ◌/◌, ◌%◌, ◌≤◌, ◌<◌}
use mathlib.Core.Path.{◌≡◌}
use mathlib.Core.List.{List, [], ◌∷◌}
use mathlib.Core.Bool.{true, false}
use native.Mathlib.Omega.{arith}
use borrow.Author.Tests.{lt-leb, le-leb, lt-ltb, le-ltb, ne_eqb}
use lib.Dec.{leb}
use Rattle.seq.specs.Bytes.{is, is_digit, byte_at}
use Rattle.seq.proofs.Logic.{and_right}
use Rattle.utf8.specs.Table.{encoding}
use Rattle.strings.proofs.Steps.{range}
use Rattle.strings.specs.Strings.{digit, unit, is_half, pair, low_at, short, spelled, escape, is_marked}

-- ---- a hexadecimal digit
module _ (b : ℕ) where
  pub digit-below : b < 48 → digit b ≡ 0
  unfolding digit
  digit-below h = rw (lt-leb 48 b h, lt-leb 65 b (omega arith), lt-leb 97 b (omega arith))

  pub digit-ten : 48 ≤ b → b < 58 → digit b ≡ b - 48
  unfolding digit
  digit-ten g h = rw (le-leb 48 b g, le-leb b 57 (omega arith))

  not-ten : 58 ≤ b → is_digit b ≡ false
  not-ten g = rw (le-leb 48 b (omega arith), lt-leb b 57 g)

  pub digit-between : 58 ≤ b → b < 65 → digit b ≡ 0
  unfolding digit
  digit-between g h = rw (not-ten g, lt-leb 65 b h, lt-leb 97 b (omega arith))

  pub digit-upper : 65 ≤ b → b < 71 → digit b ≡ b - 65 + 10
  unfolding digit
  digit-upper g h = rw (not-ten (omega arith), le-leb 65 b g, le-leb b 70 (omega arith))

  pub digit-behind : 71 ≤ b → b < 97 → digit b ≡ 0
  unfolding digit
  digit-behind g h = rw (not-ten (omega arith), le-leb 65 b (omega arith), lt-leb b 70 g, lt-leb 97 b h)

  pub digit-lower : 97 ≤ b → b < 103 → digit b ≡ b - 97 + 10
  unfolding digit
  digit-lower g h = rw (not-ten (omega arith), le-leb 65 b (omega arith), lt-leb b 70 (omega arith), le-leb 97 b g, le-leb b 102 (omega arith))

  pub digit-past : 103 ≤ b → digit b ≡ 0
  unfolding digit
  digit-past g = rw (not-ten (omega arith), le-leb 65 b (omega arith), lt-leb b 70 (omega arith), le-leb 97 b (omega arith), lt-leb b 102 g)
      -- ---- an escape

  pub short_none : (b ≡ 98 → ⊥) → (b ≡ 102 → ⊥) → (b ≡ 110 → ⊥) → (b ≡ 114 → ⊥) → (b ≡ 116 → ⊥) → short b ≡ b
  unfolding short
  short_none p q r s t = rw (ne_eqb b 98 p, ne_eqb b 102 q, ne_eqb b 110 r, ne_eqb b 114 s, ne_eqb b 116 t)

  pub half-below : b < 0xd800 → is_half b ≡ false
  half-below h = rw (lt-leb 0xd800 b h)

  pub half-from : 0xd800 ≤ b → is_half b ≡ leb b 0xdfff
  half-from h = rw (le-leb 0xd800 b h)

  pub quote-marked : b ≡ 34 → is_marked b ≡ true
  quote-marked h = rw h

  pub backslash-marked : b ≡ 92 → is_marked b ≡ true
  backslash-marked h = rw h

  pub not-marked : (b ≡ 34 → ⊥) → (b ≡ 92 → ⊥) → is_marked b ≡ false
  not-marked p q = rw (ne_eqb b 34 p, ne_eqb b 92 q)

pub short-b : (b : ℕ) → b ≡ 98 → short b ≡ 8
unfolding short
short-b b h = rw h

pub short-f : (b : ℕ) → b ≡ 102 → short b ≡ 12
unfolding short
short-f b h = rw h

pub short_n : (b : ℕ) → b ≡ 110 → short b ≡ 10
unfolding short
short_n b h = rw h

pub short-r : (b : ℕ) → b ≡ 114 → short b ≡ 13
unfolding short
short-r b h = rw h

pub short-t : (b : ℕ) → b ≡ 116 → short b ≡ 9
unfolding short
short-t b h = rw h

-- a and b are the bytes at 6 and 7, u the number in the digits behind them
module _ (t : List ℕ) where
  pub low-plain : (a : ℕ) → a ≡ byte_at t 6 → (a ≡ 92 → ⊥) → low_at t 6 ≡ false
  unfolding low_at
  low-plain a ea h = rw (← ea, ne_eqb a 92 h)

  module _ (a b : ℕ) (ea : a ≡ byte_at t 6) (eb : b ≡ byte_at t 7) (ha : a ≡ 92) where
    pub low-short : (b ≡ 117 → ⊥) → low_at t 6 ≡ false
    unfolding low_at
    low-short h = rw (← ea, ← eb, ha, ne_eqb b 117 h)

    module _ (u : ℕ) (eu : u ≡ unit t 8) (hb : b ≡ 117) where
      pub low_below : u < 0xdc00 → low_at t 6 ≡ false
      unfolding low_at
      low_below h = rw (← ea, ← eb, ha, hb, ← eu, lt-leb 0xdc00 u h)

      pub low-from : 0xdc00 ≤ u → low_at t 6 ≡ leb u 0xdfff
      unfolding low_at
      low-from h = rw (← ea, ← eb, ha, hb, ← eu, le-leb 0xdc00 u h)

  -- where one follows, it is a low half
  pub low-bounds : low_at t 6 ≡ true → (0xdc00 ≤ unit t 8) × (unit t 8 ≤ 0xdfff)
  unfolding low_at
  low-bounds e = range 0xdc00 0xdfff (unit t 8) (and_right (is "u" (byte_at t 7)) _ (and_right (is "\\" (byte_at t 6)) _ e))

-- p, q, r, s are the bytes, a, b, c, d their digits
pub unit-is : (t : List ℕ) (at p q r s a b c d : ℕ)
    → p ≡ byte_at t at → q ≡ byte_at t (at + 1) → r ≡ byte_at t (at + 2) → s ≡ byte_at t (at + 3)
    → a ≡ digit p → b ≡ digit q → c ≡ digit r → d ≡ digit s → unit t at ≡ ((a * 16 + b) * 16 + c) * 16 + d
unfolding unit
unit-is t at p q r s a b c d ep eq er es ea eb ec ed = rw (ea, eb, ec, ed, ep, eq, er, es)

-- h is the number in the first four digits
module _ (t : List ℕ) (u : byte_at t 1 ≡ 117) (h : ℕ) (eh : h ≡ unit t 2) where
  pub escape-below : h < 0xd800 → escape t ≡ spelled h 6
  unfolding escape
  escape-below k = rw (u, ← eh, lt-leb 0xd800 h k)

  pub escape-above : 0xdbff < h → escape t ≡ spelled h 6
  unfolding escape
  escape-above k = rw (u, ← eh, le-leb 0xd800 h (omega arith), lt-leb h 0xdbff k)

  module _ (g : 0xd800 ≤ h) (k : h ≤ 0xdbff) where
    pub escape-pair : (l : ℕ) → l ≡ unit t 8 → low_at t 6 ≡ true → escape t ≡ spelled (pair h l) 12
    unfolding escape
    escape-pair l el e = rw (u, ← eh, ← el, le-leb 0xd800 h g, le-leb h 0xdbff k, e)

    pub escape-lone : low_at t 6 ≡ false → escape t ≡ spelled h 6
    unfolding escape
    escape-lone e = rw (u, ← eh, le-leb 0xd800 h g, le-leb h 0xdbff k, e)

pub escape-short : (t : List ℕ) (b : ℕ) → b ≡ byte_at t 1 → (b ≡ 117 → ⊥) → (n : ℕ) → n ≡ short b → escape t ≡ spelled n 2
unfolding escape
escape-short t b eb h n en = rw (← eb, ne_eqb b 117 h, en)

-- ---- UTF-8
-- x, y, z are the bytes that go on with the character
module _ (n : ℕ) where
  pub encoding-one : n < 0x80 → encoding n ≡ n ∷ []
  unfolding encoding
  encoding-one h = rw (lt-ltb n 0x80 h)

  pub encoding-two : 0x80 ≤ n → n < 0x800 → (z : ℕ) → z ≡ 0x80 + n % 64 → encoding n ≡ (0xc0 + n / 64) ∷ z ∷ []
  unfolding encoding
  encoding-two g h z ez = rw (le-ltb n 0x80 g, lt-ltb n 0x800 h, ez)

  pub encoding-three : 0x800 ≤ n → n < 0x10000 → (y z : ℕ) → y ≡ 0x80 + n / 64 % 64 → z ≡ 0x80 + n % 64
      → encoding n ≡ (0xe0 + n / 4096) ∷ y ∷ z ∷ []
  unfolding encoding
  encoding-three g h y z ey ez = rw (le-ltb n 0x80 (omega arith), le-ltb n 0x800 g, lt-ltb n 0x10000 h, ey, ez)

  pub encoding-four : 0x10000 ≤ n → (x y z : ℕ) → x ≡ 0x80 + n / 4096 % 64 → y ≡ 0x80 + n / 64 % 64 → z ≡ 0x80 + n % 64
      → encoding n ≡ (0xf0 + n / 262144) ∷ x ∷ y ∷ z ∷ []
  unfolding encoding
  encoding-four g x y z ex ey ez = rw (le-ltb n 0x80 (omega arith), le-ltb n 0x800 (omega arith), le-ltb n 0x10000 g, ex, ey, ez)
