-- Laws of specs/Kinds.antt. Assumes nothing.
use mathlib.Core.Path.{◌≡◌, refl, sym}
use Prim.Native.Nat.{ℕ, ◌+◌, ◌*◌, ◌-◌, ◌≤◌, ◌<◌}
use mathlib.Core.List.{List, [], ◌∷◌}
use mathlib.Core.Bool.{Bool, true, false, cond, ◌&&◌}
use native.Mathlib.Numerals.{add-one}
use native.Mathlib.Omega.{arith}
use lib.ListN.{length, drop, drop_of_length-le}
use lib.Seq.{drop-cons}
use lib.Dec.{eqb, leb}
use borrow.Author.Tests.{le-leb, lt-leb, ne_eqb}
use Rattle.seq.specs.Bytes.{is_digit, byte_at}
use Rattle.seq.specs.Lists.{every}
use Rattle.seq.specs.Numbers.{last_id}
use Rattle.elements.specs.Kinds.{decimal, id_from, id_of, kind}

-- ---- an ID: v is the number read so far, i the place
pub decimal-more : (v : ℕ) (t : List ℕ) → v ≤ decimal v t
unfolding decimal
decimal-more v [] = omega arith
decimal-more v (b ∷ bs) = omega (arith, decimal-more (v * 10 + (b - 48)) bs)

pub id-large : (v : ℕ) (t : List ℕ) → last_id < v → id_from v t ≡ 0
unfolding id_from
id-large v t h = go (every is_digit t)
  where
    go : (b : Bool) → cond (b && leb (decimal v t) last_id) (decimal v t) 0 ≡ 0
    go true = rw (lt-leb (decimal v t) last_id (omega (arith, decimal-more v t)))
    go false = refl

pub id-end : (v : ℕ) (t : List ℕ) (i : ℕ) → length t ≤ i → v ≤ last_id → id_from v (drop i t) ≡ v
unfolding id_from every decimal
id-end v t i h k = rw (drop_of_length-le t {i = i} h, le-leb v last_id k)

module _ (v : ℕ) (t : List ℕ) (i : ℕ) (h : i < length t) where
  -- n is the digit's number
  pub id-digit : (n : ℕ) → n ≡ byte_at t i - 48 → is_digit (byte_at t i) ≡ true → id_from v (drop i t) ≡ id_from (v * 10 + n) (drop (i + 1) t)
  unfolding id_from every decimal
  id-digit n q e = rw (q, drop-cons t i 0 h, e, add-one)

  pub id_other : is_digit (byte_at t i) ≡ false → id_from v (drop i t) ≡ 0
  unfolding id_from every
  id_other e = rw (drop-cons t i 0 h, e)

-- ---- b is the first byte
module _ (t : List ℕ) (b : ℕ) (eb : b ≡ byte_at t 0) where
  pub id-zero : b ≡ 48 → id_of t ≡ 0
  unfolding id_of
  id-zero h = rw (sym eb, h)

  pub id-from : (b ≡ 48 → ⊥) → id_of t ≡ id_from 0 t
  unfolding id_of
  id-from h = rw (sym eb, ne_eqb b 48 h)

  pub kind-string : b ≡ 34 → kind t ≡ 2
  unfolding kind
  kind-string h = rw (sym eb, h)

  pub kind-list : b ≡ 91 → kind t ≡ 3
  unfolding kind
  kind-list h = rw (sym eb, h)

  pub kind-dict : b ≡ 123 → kind t ≡ 4
  unfolding kind
  kind-dict h = rw (sym eb, h)

  module _ (q : b ≡ 34 → ⊥) (l : b ≡ 91 → ⊥) (d : b ≡ 123 → ⊥) (n : ℕ) (en : n ≡ id_of t) where
    pub kind-other : n ≡ 0 → kind t ≡ 5
    unfolding kind
    kind-other h = rw (sym eb, ne_eqb b 34 q, ne_eqb b 91 l, ne_eqb b 123 d, sym en, h)

    pub kind-id : (n ≡ 0 → ⊥) → kind t ≡ 1
    unfolding kind
    kind-id h = rw (sym eb, ne_eqb b 34 q, ne_eqb b 91 l, ne_eqb b 123 d, sym en, ne_eqb n 0 h)

-- a kind is one decimal digit
pub kind-small : (t : List ℕ) → kind t ≤ 5
unfolding kind
kind-small t = go (eqb (byte_at t 0) 34) (eqb (byte_at t 0) 91) (eqb (byte_at t 0) 123) (eqb (id_of t) 0)
  where
    go : (a b c d : Bool) → cond a 2 (cond b 3 (cond c 4 (cond d 5 1))) ≤ 5
    go true b c d = omega arith
    go false true c d = omega arith
    go false false true d = omega arith
    go false false false true = omega arith
    go false false false false = omega arith
