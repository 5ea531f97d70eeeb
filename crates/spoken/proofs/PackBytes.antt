-- What is written in MessagePack is bytes. Assumes nothing.
use Prim.Native.Nat.{ℕ, ◌-◌, ◌≤◌, ◌<◌}
use mathlib.Core.Bool.{true, false}
use mathlib.Core.List.{List, [], ◌∷◌, ◌++◌}
use mathlib.Core.Logic.{inl, inr}
use mathlib.Core.Path.{sym, subst}
use native.Mathlib.Omega.{arith}
use borrow.Author.Tests.{ltb-true}
use lib.Dec.{ltb}
use lib.ListN.{length}
use Rattle.seq.specs.Lists.{All, joined}
use Rattle.seq.proofs.Logic.{cond-case}
use Rattle.seq.proofs.Rules.{all_map, all_append}
use Rattle.utf8.specs.Table.{Scalar as Character, encoding}
use Rattle.utf8.proofs.Table.{utf8-table}
use Rattle.values.specs.Value.{Scalar, Member, GoodText, GoodScalar, GoodMember}
use Rattle.values.specs.Value.Scalar.{Null, Flag, Whole, Below, Text}
use Rattle.values.specs.Write.{pack_whole, pack_below, pack_str, pack_array, pack_map, pack_text, pack_scalar, pack_member}
use Rattle.outgoing.proofs.Shortest.{wide-bytes}

abbrev pub Bytes : List ℕ → Type 0
Bytes w = All (λ b. b < 256) w

-- ---- numbers and heads
whole-bytes : (n : ℕ) → Bytes (pack_whole n)
unfolding pack_whole
whole-bytes n =
    cond-case Bytes (ltb n 0x80) _ _ (λ t. let l = ltb-true n 0x80 t in (omega arith, tt))
    (λ t. cond-case Bytes (ltb n 0x100) _ _ (λ t. (omega arith, wide-bytes 1 n))
    (λ t. cond-case Bytes (ltb n 0x10000) _ _ (λ t. (omega arith, wide-bytes 2 n))
    (λ t. cond-case Bytes (ltb n 0x100000000) _ _ (λ t. (omega arith, wide-bytes 4 n)) (λ t. (omega arith, wide-bytes 8 n)))))

below-bytes : (n : ℕ) → Bytes (pack_below n)
unfolding pack_below
below-bytes n =
    cond-case Bytes (ltb n 0x20) _ _ (λ t. (omega arith, tt))
    (λ t. cond-case Bytes (ltb n 0x80) _ _ (λ t. (omega arith, wide-bytes 1 (0xff - n)))
    (λ t. cond-case Bytes (ltb n 0x8000) _ _ (λ t. (omega arith, wide-bytes 2 (0xffff - n)))
    (λ t. cond-case Bytes (ltb n 0x80000000) _ _ (λ t. (omega arith, wide-bytes 4 (0xffffffff - n)))
    (λ t. (omega arith, wide-bytes 8 (0xffffffffffffffff - n))))))

str-bytes : (n : ℕ) → Bytes (pack_str n)
unfolding pack_str
str-bytes n =
    cond-case Bytes (ltb n 0x20) _ _ (λ t. let l = ltb-true n 0x20 t in (omega arith, tt))
    (λ t. cond-case Bytes (ltb n 0x100) _ _ (λ t. (omega arith, wide-bytes 1 n))
    (λ t. cond-case Bytes (ltb n 0x10000) _ _ (λ t. (omega arith, wide-bytes 2 n)) (λ t. (omega arith, wide-bytes 4 n))))

array-bytes : (n : ℕ) → Bytes (pack_array n)
unfolding pack_array
array-bytes n =
    cond-case Bytes (ltb n 0x10) _ _ (λ t. let l = ltb-true n 0x10 t in (omega arith, tt))
    (λ t. cond-case Bytes (ltb n 0x10000) _ _ (λ t. (omega arith, wide-bytes 2 n)) (λ t. (omega arith, wide-bytes 4 n)))

map-bytes : (n : ℕ) → Bytes (pack_map n)
unfolding pack_map
map-bytes n =
    cond-case Bytes (ltb n 0x10) _ _ (λ t. let l = ltb-true n 0x10 t in (omega arith, tt))
    (λ t. cond-case Bytes (ltb n 0x10000) _ _ (λ t. (omega arith, wide-bytes 2 n)) (λ t. (omega arith, wide-bytes 4 n)))

-- UTF-8 is bytes
last-character : (c : ℕ) → Character c → c ≤ 0x10ffff
last-character c (inl l) = omega arith
last-character c (inr l) = l.1

encoding-bytes : (c : ℕ) → c ≤ 0x10ffff → Bytes (encoding c)
unfolding encoding
encoding-bytes c l =
    cond-case Bytes (ltb c 0x80) _ _ (λ t. let m = ltb-true c 0x80 t in (omega arith, tt))
    (λ t. cond-case Bytes (ltb c 0x800) _ _ (λ t. let m = ltb-true c 0x800 t in (omega arith, (omega arith, tt)))
    (λ t. cond-case Bytes (ltb c 0x10000) _ _ (λ t. let m = ltb-true c 0x10000 t in (omega arith, (omega arith, (omega arith, tt))))
    (λ t. (omega arith, (omega arith, (omega arith, (omega arith, tt)))))))

encoded-bytes : (cs : List ℕ) → All Character cs → Bytes (joined encoding cs)
encoded-bytes [] s = tt
encoded-bytes (c ∷ cs) s =
    all_append (λ b. b < 256) (encoding c) (joined encoding cs) (encoding-bytes c (last-character c s.0)) (encoded-bytes cs s.1)

text-bytes : (t : List ℕ) → GoodText t → Bytes (pack_text t)
unfolding pack_text
text-bytes t g =
    let (cs, s, e) = (utf8-table t).0 g.utf8 in
    all_append (λ b. b < 256) (pack_str (length t)) t (str-bytes (length t)) (subst Bytes (sym e) (encoded-bytes cs s))

pub scalar-bytes : (v : Scalar) → GoodScalar v → Bytes (pack_scalar v)
unfolding pack_scalar
scalar-bytes Null g = (omega arith, tt)
scalar-bytes (Flag true) g = (omega arith, tt)
scalar-bytes (Flag false) g = (omega arith, tt)
scalar-bytes (Whole n) g = whole-bytes n
scalar-bytes (Below n) g = below-bytes n
scalar-bytes (Text t) g = text-bytes t g

-- ---- arrays and maps, whose values are bytes
joined_bytes : {A : Type 0} (f : A → List ℕ) (xs : List A) → All (λ x. Bytes (f x)) xs → Bytes (joined f xs)
joined_bytes f [] a = tt
joined_bytes f (x ∷ xs) a = all_append (λ b. b < 256) (f x) (joined f xs) a.0 (joined_bytes f xs a.1)

module _ {A : Type 0} (f : A → List ℕ) where
  pub list-bytes : (xs : List A) → All (λ x. Bytes (f x)) xs → Bytes (pack_array (length xs) ++ joined f xs)
  list-bytes xs a = all_append (λ b. b < 256) (pack_array (length xs)) (joined f xs) (array-bytes (length xs)) (joined_bytes f xs a)

  member-bytes : (m : Member A) → GoodMember (λ v. Bytes (f v)) m → Bytes (pack_member f m)
  unfolding pack_member
  member-bytes m g = all_append (λ b. b < 256) (pack_text m.key) (f m.value) (text-bytes m.key g.key) g.value

  pub dict-bytes : (ms : List (Member A)) → All (GoodMember (λ v. Bytes (f v))) ms → Bytes (pack_map (length ms) ++ joined (pack_member f) ms)
  dict-bytes ms a =
      all_append (λ b. b < 256) (pack_map (length ms)) (joined (pack_member f) ms) (map-bytes (length ms))
      (joined_bytes (pack_member f) ms (all_map (GoodMember (λ v. Bytes (f v))) (λ m. Bytes (pack_member f m)) member-bytes ms a))
