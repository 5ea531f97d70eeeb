-- RFC 3629's table, by its rows: how long a character's bytes are, that no ASCII byte is among those of more than one, and that the bytes of two
-- lists of characters are told apart. Assumes nothing.
use Prim.Native.Nat.{ℕ, ◌+◌, ◌*◌, ◌-◌, ◌/◌, ◌%◌, ◌≤◌, ◌<◌}
use mathlib.Core.Path.{◌≡◌, refl, sym, ap, ap₂, subst, ◌∙◌}
use mathlib.Core.List.{List, [], ◌∷◌, ◌++◌}
use mathlib.Core.Bool.{cond}
use native.Mathlib.Decide.{dec_lt}
use native.Mathlib.Omega.{arith}
use lib.ListN.{length, drop, length-append}
use lib.Seq.{drop-append_seam}
use lib.Dec.{ltb}
use borrow.Author.Tests.{lt-ltb, le-ltb}
use Rattle.seq.specs.Bytes.{byte_at}
use Rattle.seq.specs.Lists.{All, joined}
use Rattle.utf8.specs.Table.{encoding}

module _ (n : ℕ) where
  pub encoding1 : n < 0x80 → encoding n ≡ n ∷ []
  unfolding encoding
  encoding1 h = rw (lt-ltb n 0x80 h)

  encoding2 : 0x80 ≤ n → n < 0x800 → encoding n ≡ (0xc0 + n / 64) ∷ (0x80 + n % 64) ∷ []
  unfolding encoding
  encoding2 g h = rw (le-ltb n 0x80 g, lt-ltb n 0x800 h)

  encoding3 : 0x800 ≤ n → n < 0x10000 → encoding n ≡ (0xe0 + n / 4096) ∷ (0x80 + n / 64 % 64) ∷ (0x80 + n % 64) ∷ []
  unfolding encoding
  encoding3 g h = rw (le-ltb n 0x80 (omega arith), le-ltb n 0x800 g, lt-ltb n 0x10000 h)

  encoding4 : 0x10000 ≤ n → encoding n ≡ (0xf0 + n / 262144) ∷ (0x80 + n / 4096 % 64) ∷ (0x80 + n / 64 % 64) ∷ (0x80 + n % 64) ∷ []
  unfolding encoding
  encoding4 g = rw (le-ltb n 0x80 (omega arith), le-ltb n 0x800 (omega arith), le-ltb n 0x10000 g)

  pub by_row : (P : List ℕ → Type 0)
      → (n < 0x80 → P (n ∷ []))
      → (0x80 ≤ n → n < 0x800 → P ((0xc0 + n / 64) ∷ (0x80 + n % 64) ∷ []))
      → (0x800 ≤ n → n < 0x10000 → P ((0xe0 + n / 4096) ∷ (0x80 + n / 64 % 64) ∷ (0x80 + n % 64) ∷ []))
      → (0x10000 ≤ n → P ((0xf0 + n / 262144) ∷ (0x80 + n / 4096 % 64) ∷ (0x80 + n / 64 % 64) ∷ (0x80 + n % 64) ∷ []))
      → P (encoding n)
  by_row P f1 f2 f3 f4 = elim (dec_lt n 0x80) [
    | yes p ↦ subst P (sym (encoding1 p)) (f1 p)
    | no p ↦ elim (dec_lt n 0x800) [
      | yes q ↦ subst P (sym (encoding2 (omega arith) q)) (f2 (omega arith) q)
      | no q ↦ elim (dec_lt n 0x10000) [
        | yes r ↦ subst P (sym (encoding3 (omega arith) r)) (f3 (omega arith) r)
        | no r ↦ subst P (sym (encoding4 (omega arith))) (f4 (omega arith))
      ]
    ]
  ]

  -- ---- how long they are
  pub row1-length : n < 0x80 → length (encoding n) ≤ 1
  row1-length h = by_row (λ l. length l ≤ 1) (λ p. omega arith) (λ g p. omega arith) (λ g p. omega arith) (λ g. omega arith)

  pub row2-length : n < 0x800 → length (encoding n) ≤ 2
  row2-length h = by_row (λ l. length l ≤ 2) (λ p. omega arith) (λ g p. omega arith) (λ g p. omega arith) (λ g. omega arith)

  pub row3-length : n < 0x10000 → length (encoding n) ≤ 3
  row3-length h = by_row (λ l. length l ≤ 3) (λ p. omega arith) (λ g p. omega arith) (λ g p. omega arith) (λ g. omega arith)

  pub row4-length : length (encoding n) ≤ 4
  row4-length = by_row (λ l. length l ≤ 4) (λ p. omega arith) (λ g p. omega arith) (λ g p. omega arith) (λ g. omega arith)

  -- ---- past ASCII, every byte is
  pub rows-high : 0x80 ≤ n → All (λ b. 0x80 ≤ b) (encoding n)
  rows-high h = by_row (λ l. All (λ b. 0x80 ≤ b) l)
      (λ p. absurd (omega arith))
      (λ g p. (omega arith, (omega arith, tt)))
      (λ g p. (omega arith, (omega arith, (omega arith, tt))))
      (λ g. (omega arith, (omega arith, (omega arith, (omega arith, tt)))))

-- ---- characters' bytes, one after the other, are told apart: the number that stands at the head of a text
abbrev number_of : List ℕ → ℕ
number_of t =
    cond (ltb (byte_at t 0) 0xc0) (byte_at t 0)
    (cond (ltb (byte_at t 0) 0xe0) ((byte_at t 0 - 0xc0) * 64 + (byte_at t 1 - 0x80))
    (cond (ltb (byte_at t 0) 0xf0) ((byte_at t 0 - 0xe0) * 4096 + (byte_at t 1 - 0x80) * 64 + (byte_at t 2 - 0x80))
    ((byte_at t 0 - 0xf0) * 262144 + (byte_at t 1 - 0x80) * 4096 + (byte_at t 2 - 0x80) * 64 + (byte_at t 3 - 0x80))))

number_is : (n : ℕ) (r : List ℕ) → number_of (encoding n ++ r) ≡ n
number_is n r =
    let six₀ : n ≡ n / 64 * 64 + n % 64 = omega arith in
    let six₁ : n / 64 ≡ n / 4096 * 64 + n / 64 % 64 = omega arith in
    let six₂ : n / 4096 ≡ n / 262144 * 64 + n / 4096 % 64 = omega arith in
    by_row n (λ u. number_of (u ++ r) ≡ n)
    (λ p. rw (lt-ltb n 0xc0 (omega arith)))
    (λ g p. rw (le-ltb (0xc0 + n / 64) 0xc0 (omega arith), lt-ltb (0xc0 + n / 64) 0xe0 (omega arith)) (row2 (n / 64) (n % 64) six₀))
    (λ g p.
    let b = 0xe0 + n / 4096 in
    rw (le-ltb b 0xc0 (omega arith), le-ltb b 0xe0 (omega arith), lt-ltb b 0xf0 (omega arith))
    (row3 (n / 64) (n / 4096) (n / 64 % 64) (n % 64) six₀ six₁))
    (λ g.
    let b = 0xf0 + n / 262144 in
    rw (le-ltb b 0xc0 (omega arith), le-ltb b 0xe0 (omega arith), le-ltb b 0xf0 (omega arith))
    (row4 (n / 64) (n / 4096) (n / 262144) (n / 4096 % 64) (n / 64 % 64) (n % 64) six₀ six₁ six₂))
  where
    row2 : (a x : ℕ) → n ≡ a * 64 + x → (0xc0 + a - 0xc0) * 64 + (0x80 + x - 0x80) ≡ n
    row2 a x p = omega arith

    row3 : (a b x y : ℕ) → n ≡ a * 64 + y → a ≡ b * 64 + x → (0xe0 + b - 0xe0) * 4096 + (0x80 + x - 0x80) * 64 + (0x80 + y - 0x80) ≡ n
    row3 a b x y p q = omega arith

    row4 : (a b c x y z : ℕ) → n ≡ a * 64 + z → a ≡ b * 64 + y → b ≡ c * 64 + x
        → (0xf0 + c - 0xf0) * 262144 + (0x80 + x - 0x80) * 4096 + (0x80 + y - 0x80) * 64 + (0x80 + z - 0x80) ≡ n
    row4 a b c x y z p q s = omega arith

pub some_bytes : (n : ℕ) → 1 ≤ length (encoding n)
some_bytes n = by_row n (λ u. 1 ≤ length u) (λ p. omega arith) (λ g p. omega arith) (λ g p. omega arith) (λ g. omega arith)

pub bytes_apart : (cs ds : List ℕ) → joined encoding cs ≡ joined encoding ds → cs ≡ ds
bytes_apart [] [] e = refl
bytes_apart [] (d ∷ ds) e = let l = some_bytes d in absurd (omega (arith, ap length e ∙ length-append (encoding d) (joined encoding ds)))
bytes_apart (c ∷ cs) [] e = let l = some_bytes c in absurd (omega (arith, sym (length-append (encoding c) (joined encoding cs)) ∙ ap length e))
bytes_apart (c ∷ cs) (d ∷ ds) e =
    let r = joined encoding cs in
    let s = joined encoding ds in
    let p : c ≡ d = sym (number_is c r) ∙ ap number_of e ∙ number_is d s in
    let f : encoding d ++ r ≡ encoding d ++ s = subst (λ (n : ℕ). encoding n ++ r ≡ encoding d ++ s) p e in
    let q : r ≡ s = sym (drop-append_seam (encoding d) r) ∙ ap (λ (u : List ℕ). drop (length (encoding d)) u) f ∙ drop-append_seam (encoding d) s in
    ap₂ (λ (n : ℕ) (l : List ℕ). n ∷ l) p (bytes_apart cs ds q)
