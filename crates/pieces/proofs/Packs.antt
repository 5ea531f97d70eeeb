-- How many bytes the shortest forms have. Assumes nothing.
use Prim.Native.Nat.{ℕ, ◌+◌, ◌≤◌, ◌<◌}
use mathlib.Core.Path.{◌≡◌}
use native.Mathlib.Omega.{arith}
use borrow.Author.Tests.{lt-ltb, le-ltb}
use lib.ListN.{length}
use mathlib.Core.List.{◌∷◌}
use Rattle.values.specs.Write.{wide, pack_whole, pack_str}
use Rattle.values.proofs.PackLengths.{wide-length}

-- a first byte and a number behind it
form-length : (b w n : ℕ) → length (b ∷ wide w n) ≡ w + 1
form-length b w n = let e = wide-length w n in omega arith

module _ (n : ℕ) where
  pub whole-one : n < 0x80 → 1 ≡ length (pack_whole n)
  unfolding pack_whole
  whole-one h = rw (lt-ltb n 0x80 h)

  pub whole-two : 0x80 ≤ n → n < 0x100 → 2 ≡ length (pack_whole n)
  unfolding pack_whole
  whole-two l h = rw (le-ltb n 0x80 l, lt-ltb n 0x100 h, form-length 0xcc 1 n)

  pub whole-three : 0x100 ≤ n → n < 0x10000 → 3 ≡ length (pack_whole n)
  unfolding pack_whole
  whole-three l h = rw (le-ltb n 0x80 (omega arith), le-ltb n 0x100 l, lt-ltb n 0x10000 h, form-length 0xcd 2 n)

  pub whole-five : 0x10000 ≤ n → n < 0x100000000 → 5 ≡ length (pack_whole n)
  unfolding pack_whole
  whole-five l h =
      rw (le-ltb n 0x80 (omega arith), le-ltb n 0x100 (omega arith), le-ltb n 0x10000 l, lt-ltb n 0x100000000 h, form-length 0xce 4 n)

  pub whole-nine : 0x100000000 ≤ n → 9 ≡ length (pack_whole n)
  unfolding pack_whole
  whole-nine l =
      rw (le-ltb n 0x80 (omega arith), le-ltb n 0x100 (omega arith), le-ltb n 0x10000 (omega arith), le-ltb n 0x100000000 l, form-length 0xcf 8 n)

  pub str-one : n < 0x20 → 1 ≡ length (pack_str n)
  unfolding pack_str
  str-one h = rw (lt-ltb n 0x20 h)

  pub str-two : 0x20 ≤ n → n < 0x100 → 2 ≡ length (pack_str n)
  unfolding pack_str
  str-two l h = rw (le-ltb n 0x20 l, lt-ltb n 0x100 h, form-length 0xd9 1 n)

  pub str-three : 0x100 ≤ n → n < 0x10000 → 3 ≡ length (pack_str n)
  unfolding pack_str
  str-three l h = rw (le-ltb n 0x20 (omega arith), le-ltb n 0x100 l, lt-ltb n 0x10000 h, form-length 0xda 2 n)

  pub str-five : 0x10000 ≤ n → 5 ≡ length (pack_str n)
  unfolding pack_str
  str-five l = rw (le-ltb n 0x20 (omega arith), le-ltb n 0x100 (omega arith), le-ltb n 0x10000 l, form-length 0xdb 4 n)
