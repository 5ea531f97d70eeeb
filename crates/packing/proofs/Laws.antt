-- Each form of a head, by its number. Assumes nothing.
use Prim.Native.Nat.{ℕ, zero, suc, ◌+◌, ◌-◌, ◌/◌, ◌%◌, ◌≤◌, ◌<◌}
use mathlib.Core.List.{List, [], ◌∷◌, ◌++◌}
use mathlib.Core.Path.{◌≡◌, refl, ap, ◌∙◌}
use native.Mathlib.Omega.{arith}
use borrow.Author.Tests.{lt-ltb, le-ltb, ltb-true, ltb-false}
use lib.Dec.{ltb}
use lib.ListN.{length}
use Rattle.seq.proofs.Logic.{split}
use Rattle.packing.specs.Counted.{counted}
use Rattle.values.specs.Write.{wide, pack_whole, pack_below, pack_str, pack_array, pack_map, pack_text}

pub wide-none : (w n : ℕ) → w ≡ 0 → [] ≡ wide w n
unfolding wide
wide-none zero n e = refl
wide-none (suc w) n e = absurd (omega arith)

pub wide-more : (w n b : ℕ) → (w ≡ 0 → ⊥) → b ≡ n % 256 → wide (w - 1) (n / 256) ++ (b ∷ []) ≡ wide w n
unfolding wide
wide-more zero n b h e = absurd (h refl)
wide-more (suc w) n b h e = let d : suc w - 1 ≡ w = omega arith in rw (d, e)

module _ (n x : ℕ) where
  pub whole-1 : n < 0x80 → x ≡ n → x ∷ [] ≡ pack_whole n
  unfolding pack_whole
  whole-1 l e = rw (lt-ltb n 0x80 l, e)

  pub whole-2 : 0x80 ≤ n → n < 0x100 → x ≡ n → 0xcc ∷ wide 1 x ≡ pack_whole n
  unfolding pack_whole
  whole-2 l m e = rw (le-ltb n 0x80 (omega arith), lt-ltb n 0x100 m, e)

  pub whole-3 : 0x100 ≤ n → n < 0x10000 → x ≡ n → 0xcd ∷ wide 2 x ≡ pack_whole n
  unfolding pack_whole
  whole-3 l m e = rw (le-ltb n 0x80 (omega arith), le-ltb n 0x100 (omega arith), lt-ltb n 0x10000 m, e)

  pub whole-4 : 0x10000 ≤ n → n < 0x100000000 → x ≡ n → 0xce ∷ wide 4 x ≡ pack_whole n
  unfolding pack_whole
  whole-4 l m e = rw (le-ltb n 0x80 (omega arith), le-ltb n 0x100 (omega arith), le-ltb n 0x10000 (omega arith), lt-ltb n 0x100000000 m, e)

  pub whole-5 : 0x100000000 ≤ n → x ≡ n → 0xcf ∷ wide 8 x ≡ pack_whole n
  unfolding pack_whole
  whole-5 l e = rw (le-ltb n 0x80 (omega arith), le-ltb n 0x100 (omega arith), le-ltb n 0x10000 (omega arith), le-ltb n 0x100000000 (omega arith), e)

  pub below-1 : n < 0x20 → x ≡ 0xff - n → x ∷ [] ≡ pack_below n
  unfolding pack_below
  below-1 l e = rw (lt-ltb n 0x20 l, e)

  pub below-2 : 0x20 ≤ n → n < 0x80 → x ≡ 0xff - n → 0xd0 ∷ wide 1 x ≡ pack_below n
  unfolding pack_below
  below-2 l m e = rw (le-ltb n 0x20 (omega arith), lt-ltb n 0x80 m, e)

  pub below-3 : 0x80 ≤ n → n < 0x8000 → x ≡ 0xffff - n → 0xd1 ∷ wide 2 x ≡ pack_below n
  unfolding pack_below
  below-3 l m e = rw (le-ltb n 0x20 (omega arith), le-ltb n 0x80 (omega arith), lt-ltb n 0x8000 m, e)

  pub below-4 : 0x8000 ≤ n → n < 0x80000000 → x ≡ 0xffffffff - n → 0xd2 ∷ wide 4 x ≡ pack_below n
  unfolding pack_below
  below-4 l m e = rw (le-ltb n 0x20 (omega arith), le-ltb n 0x80 (omega arith), le-ltb n 0x8000 (omega arith), lt-ltb n 0x80000000 m, e)

  pub below-5 : 0x80000000 ≤ n → x ≡ 0xffffffffffffffff - n → 0xd3 ∷ wide 8 x ≡ pack_below n
  unfolding pack_below
  below-5 l e = rw (le-ltb n 0x20 (omega arith), le-ltb n 0x80 (omega arith), le-ltb n 0x8000 (omega arith), le-ltb n 0x80000000 (omega arith), e)

  pub str-1 : n < 0x20 → x ≡ 0xa0 + n → x ∷ [] ≡ pack_str n
  unfolding pack_str
  str-1 l e = rw (lt-ltb n 0x20 l, e)

  pub str-2 : 0x20 ≤ n → n < 0x100 → x ≡ n → 0xd9 ∷ wide 1 x ≡ pack_str n
  unfolding pack_str
  str-2 l m e = rw (le-ltb n 0x20 (omega arith), lt-ltb n 0x100 m, e)

  pub str-3 : 0x100 ≤ n → n < 0x10000 → x ≡ n → 0xda ∷ wide 2 x ≡ pack_str n
  unfolding pack_str
  str-3 l m e = rw (le-ltb n 0x20 (omega arith), le-ltb n 0x100 (omega arith), lt-ltb n 0x10000 m, e)

  pub str-4 : 0x10000 ≤ n → x ≡ n → 0xdb ∷ wide 4 x ≡ pack_str n
  unfolding pack_str
  str-4 l e = rw (le-ltb n 0x20 (omega arith), le-ltb n 0x100 (omega arith), le-ltb n 0x10000 (omega arith), e)

  module _ (few many : ℕ) where
    pub count-1 : n < 0x10 → x ≡ few + n → x ∷ [] ≡ counted few many n
    unfolding counted
    count-1 l e = rw (lt-ltb n 0x10 l, e)

    pub count-2 : 0x10 ≤ n → n < 0x10000 → x ≡ n → many ∷ wide 2 x ≡ counted few many n
    unfolding counted
    count-2 l m e = rw (le-ltb n 0x10 (omega arith), lt-ltb n 0x10000 m, e)

    pub count-3 : 0x10000 ≤ n → x ≡ n → (many + 1) ∷ wide 4 x ≡ counted few many n
    unfolding counted
    count-3 l e = rw (le-ltb n 0x10 (omega arith), le-ltb n 0x10000 (omega arith), e)

pub array_counted : (n : ℕ) → counted 0x90 0xdc n ≡ pack_array n
unfolding counted pack_array
array_counted n = refl

pub map_counted : (n : ℕ) → counted 0x80 0xde n ≡ pack_map n
unfolding counted pack_map
map_counted n = refl

-- ---- how long a head is
pub record Long (n k : ℕ) : Type 0 where
  pub arrays : length (pack_array n) ≡ k
  pub maps : length (pack_map n) ≡ k

pub long-1 : (n : ℕ) → n < 0x10 → Long n 1
unfolding pack_array pack_map
long-1 n l = record { arrays = rw (lt-ltb n 0x10 l); maps = rw (lt-ltb n 0x10 l) }

pub long-3 : (n : ℕ) → 0x10 ≤ n → n < 0x10000 → Long n 3
unfolding pack_array pack_map wide
long-3 n l m = record { arrays = rw (le-ltb n 0x10 l, lt-ltb n 0x10000 m); maps = rw (le-ltb n 0x10 l, lt-ltb n 0x10000 m) }

pub long-5 : (n : ℕ) → 0x10000 ≤ n → Long n 5
unfolding pack_array pack_map wide
long-5 n l =
    record { arrays = rw (le-ltb n 0x10 (omega arith), le-ltb n 0x10000 l); maps = rw (le-ltb n 0x10 (omega arith), le-ltb n 0x10000 l) }

-- a head has a first byte
pub record First (h : List ℕ) : Type 0 where
  pub byte : ℕ
  pub rest : List ℕ
  pub is : h ≡ byte ∷ rest

first_of : (h : List ℕ) → 1 ≤ length h → First h
first_of [] l = absurd (omega arith)
first_of (b ∷ h) l = record { byte = b; rest = h; is = refl }

pub some : (n : ℕ) → (1 ≤ length (pack_array n)) × (1 ≤ length (pack_map n))
some n = split (ltb n 0x10)
    (λ t. let r = long-1 n (ltb-true n 0x10 t) in (omega (arith, r.arrays), omega (arith, r.maps)))
    (λ t. split (ltb n 0x10000)
    (λ u. let r = long-3 n (ltb-false n 0x10 t) (ltb-true n 0x10000 u) in (omega (arith, r.arrays), omega (arith, r.maps)))
    (λ u. let r = long-5 n (ltb-false n 0x10000 u) in (omega (arith, r.arrays), omega (arith, r.maps))))

pub array-first : (n : ℕ) → First (pack_array n)
array-first n = first_of (pack_array n) (some n).0

pub map_first : (n : ℕ) → First (pack_map n)
map_first n = first_of (pack_map n) (some n).1

-- ---- texts
pub text-is : (t u : List ℕ) (n x : ℕ) → x ≡ n → n ≡ length t → t ≡ u → pack_str x ++ t ≡ pack_text u
unfolding pack_text
text-is t u n x e d q = ap (λ (k : ℕ). pack_str k ++ t) (e ∙ d) ∙ ap pack_text q
