-- What the proofs of writing use of MessagePack. Assumes nothing.
use Prim.Native.Nat.{ℕ, zero, suc, ◌+◌, ◌*◌, ◌/◌, ◌%◌, ◌^◌, ◌≤◌, ◌<◌}
use mathlib.Core.List.{List, [], ◌∷◌, ◌++◌, map}
use mathlib.Core.Logic.{inl, inr}
use mathlib.Core.Path.{◌≡◌, refl, sym, ap, subst, ◌∙◌}
use native.Mathlib.Nat.{pow-suc, div-lt_iff_lt-mul, div-add-mod'}
use native.Mathlib.Omega.{arith}
use borrow.Author.Tests.{lt-ltb, ltb-true}
use lib.Dec.{ltb, lit<}
use lib.ListN.{length, length-append, length-map}
use Rattle.seq.specs.declared.Format.TheVariants.{MsgPack}
use Rattle.seq.specs.Lists.{All, In, joined}
use Rattle.seq.proofs.Logic.{cond-case}
use Rattle.seq.proofs.Rules.{all_map, all-image, all_both, all_in}
use Rattle.utf8.proofs.Table.{utf8-table}
use Rattle.lex.specs.Grammar.{Is, ◌·◌}
use Rattle.lex.proofs.Stands.{stands-next}
use Rattle.msgpack.specs.Grammar.{Number, StrHead, ArrayHead, MapHead, Str, Pair, IsPair, Apart, both, Scalar, Value}
use Rattle.msgpack.proofs.Rows.{str-head-is}
use Rattle.msgpack.proofs.Grammar.{packed-value}
use Rattle.arrays.specs.Grammar.{Whole as IsWhole}
use Rattle.maps.specs.Maps.{member_in}
use Rattle.maps.specs.Grammar.{MapOf}
use Rattle.maps.proofs.Grammar.{member-none}
use Rattle.values.specs.Value as Values
use Rattle.values.specs.Value.{Member, GoodText, GoodScalar, GoodMember, Differ}
use Rattle.values.specs.Value.Scalar.{Whole, Text}
use Rattle.values.specs.Write.{wide, pack_whole, pack_str, pack_array, pack_map, pack_text, pack_scalar, pack_member, pack_layer, write}
use Rattle.values.proofs.Both.{written_over}
use Rattle.values.proofs.PackLengths.{wide-length, whole-nine}
use Rattle.incoming.specs.Read.{str_bytes}
use Rattle.incoming.specs.Shapes.{Says, Has}
use Rattle.spoken.specs.Parts.{list, dict}
use Rattle.spoken.proofs.Among.{in_image, images-apart}
use Rattle.spoken.proofs.Laws.{Inner, Fit, Without, Laws}
use Rattle.spoken.proofs.PackBytes.{Bytes, scalar-bytes, list-bytes, dict-bytes}

-- ---- values that are no array and no map
scalar-written : (v : Values.Scalar) → GoodScalar v → Scalar (pack_scalar v)
unfolding write
scalar-written v g = (packed-value 0 (pack_scalar v)).0 (written_over MsgPack 0 v g)

scalar : (d : ℕ) (v : Values.Scalar) → GoodScalar v → Value d (pack_scalar v)
scalar zero v g = scalar-written v g
scalar (suc d) v g = inl (scalar-written v g)

-- ---- numbers
wide-number : (w n : ℕ) → n < 256 ^ w → Number w n (wide w n)
unfolding wide
wide-number zero n l = (omega arith, refl)
wide-number (suc w) n l = (
  n / 256,
  n % 256,
  sym (div-add-mod' n 256),
  (wide w (n / 256), n % 256 ∷ [], refl, wide-number w (n / 256) ((div-lt_iff_lt-mul (lit< tt)).1 (rw pow-suc at l)), refl),
)

-- the integer n
whole_is : (n : ℕ) → n < 256 ^ 8 → IsWhole n (pack_whole n)
unfolding pack_whole
whole_is n h =
    cond-case (IsWhole n) (ltb n 0x80) _ _
    (λ t. let l = ltb-true n 0x80 t in let z : n ≡ 0 + n = omega arith in inl (omega arith, ap (λ (b : ℕ). b ∷ []) z))
    (λ t. cond-case (IsWhole n) (ltb n 0x100) _ _
    (λ u. inr (inl (0xcc ∷ [], wide 1 n, refl, refl, wide-number 1 n (let l = ltb-true n 0x100 u in omega arith))))
    (λ u. cond-case (IsWhole n) (ltb n 0x10000) _ _
    (λ v. inr (inr (inl (0xcd ∷ [], wide 2 n, refl, refl, wide-number 2 n (let l = ltb-true n 0x10000 v in omega arith)))))
    (λ v. cond-case (IsWhole n) (ltb n 0x100000000) _ _
    (λ w. inr (inr (inr (inl (0xce ∷ [], wide 4 n, refl, refl, wide-number 4 n (let l = ltb-true n 0x100000000 w in omega arith))))))
    (λ w. inr (inr (inr (inr (inl (0xcf ∷ [], wide 8 n, refl, refl, wide-number 8 n h)))))))))

-- ---- strings
str-written : (n : ℕ) → n < 0x100000000 → StrHead n (pack_str n)
unfolding pack_str
str-written n h =
    cond-case (StrHead n) (ltb n 0x20) _ _ (λ t. let l = ltb-true n 0x20 t in inl (omega arith, refl))
    (λ t. cond-case (StrHead n) (ltb n 0x100) _ _
    (λ u. inr (inl (0xd9 ∷ [], wide 1 n, refl, refl, wide-number 1 n (let l = ltb-true n 0x100 u in omega arith))))
    (λ u. cond-case (StrHead n) (ltb n 0x10000) _ _
    (λ v. inr (inr (inl (0xda ∷ [], wide 2 n, refl, refl, wide-number 2 n (let l = ltb-true n 0x10000 v in omega arith)))))
    (λ v. inr (inr (inr (0xdb ∷ [], wide 4 n, refl, refl, wide-number 4 n (omega arith)))))))

str-is : (t : List ℕ) → GoodText t → Str t (pack_text t)
unfolding pack_text
str-is t g = (pack_str (length t), t, refl, str-written (length t) g.sized, refl)

string : (t : List ℕ) → GoodText t → Says MsgPack t (pack_scalar (Text t))
unfolding pack_scalar
string t g = ((utf8-table t).0 g.utf8, str-is t g)

-- a str stands for one text
str-bytes : (u t : List ℕ) → Str u t → str_bytes t ≡ u
str-bytes u t (a, v, e, g, q) = rw (str-head-is t 0 a v e (length u) g) (stands-next t 0 a v e ∙ q)

key-is : (key u : List ℕ) → GoodText key → Str u (pack_text key) → u ≡ key
key-is key u g h = sym (str-bytes u (pack_text key) h) ∙ str-bytes key (pack_text key) (str-is key g)

-- ---- arrays
array_head : (n : ℕ) → n ≤ 15 → ArrayHead n (pack_array n)
unfolding pack_array
array_head n h = rw (lt-ltb n 0x10 (omega arith)) (inl (h, refl))

listed : (es : List (List ℕ)) → length es ≤ 15 → (ArrayHead (length es) · Is (joined (λ (e : List ℕ). e) es)) (list MsgPack es)
unfolding pack_layer
listed es h = (pack_array (length es), joined (λ (e : List ℕ). e) es, refl, array_head (length es) h, refl)

joined-short : (es : List (List ℕ)) → All (λ e. length e ≤ 16) es → length (joined (λ (e : List ℕ). e) es) ≤ 17 * length es
joined-short [] a = omega arith
joined-short (e ∷ es) a = let k = joined-short es a.1 in let l = a.0 in simp length-append (omega (arith, k, l))

head-short : (n : ℕ) → length (pack_array n) ≤ 5
unfolding pack_array
head-short n =
    cond-case (λ (t : List ℕ). length t ≤ 5) (ltb n 0x10) _ _ (λ t. omega arith)
    (λ t. cond-case (λ (t : List ℕ). length t ≤ 5) (ltb n 0x10000) _ _ (λ u. omega (arith, wide-length 2 n)) (λ u. omega (arith, wide-length 4 n)))

list-short : (es : List (List ℕ)) → All (λ e. length e ≤ 16) es → length (list MsgPack es) ≤ 5 + 17 * length es
unfolding pack_layer
list-short es a = let k = joined-short es a in let h = head-short (length es) in simp length-append (omega (arith, k, h))

list-some : (es : List (List ℕ)) → 1 ≤ length (list MsgPack es)
unfolding pack_layer pack_array
list-some es =
    cond-case AtLeastOne (ltb (length es) 0x10) _ _ (λ t. omega arith)
    (λ t. cond-case AtLeastOne (ltb (length es) 0x10000) _ _ (λ u. omega arith) (λ u. omega arith))
  where
    AtLeastOne : List ℕ → Type 0
    AtLeastOne head = 1 ≤ length (head ++ joined (λ (e : List ℕ). e) es)

-- ---- maps
-- the pair that is written
abbrev written : Member (List ℕ) → Pair
written m = record { key = pack_text m.key; value = m.value }

pair_is : (m : Member (List ℕ)) → GoodMember (Inner MsgPack) m → IsPair (Value 6) (written m)
unfolding pack_scalar
pair_is m g = (scalar 6 (Text m.key) g.key, g.value.0)

map-head : (n : ℕ) → n ≤ 15 → MapHead n (pack_map n)
unfolding pack_map
map-head n h = rw (lt-ltb n 0x10 (omega arith)) (inl (h, refl))

joined-pairs : (ms : List (Member (List ℕ))) → joined (pack_member (λ (t : List ℕ). t)) ms ≡ joined both (map written ms)
unfolding pack_member
joined-pairs [] = refl
joined-pairs (m ∷ ms) = ap (λ (t : List ℕ). (pack_text m.key ++ m.value) ++ t) (joined-pairs ms)

module _ (ms : List (Member (List ℕ))) (g : Fit MsgPack ms) where
  map_is : MapOf (map written ms) (dict MsgPack ms)
  unfolding pack_layer
  map_is = (
    all-image (GoodMember (Inner MsgPack)) (IsPair (Value 6)) written pair_is ms g.each,
    images-apart Differ (GoodMember (Inner MsgPack)) Apart written
        (λ m n p q d u h k. d (sym (key-is m.key u p.key h) ∙ key-is n.key u q.key k)) ms g.each g.apart,
    (
      pack_map (length ms),
      joined (pack_member (λ (t : List ℕ). t)) ms,
      refl,
      subst (λ (n : ℕ). MapHead n (pack_map (length ms))) (sym (length-map ms written)) (map-head (length ms) g.few),
      joined-pairs ms,
    ),
  )

  has : (m : Member (List ℕ)) → In m ms → Has MsgPack m.key m.value (dict MsgPack ms)
  has m i =
      let h = all_in (GoodMember (Inner MsgPack)) ms m g.each i in
      (map written ms, map_is, written m, in_image written ms m i, str-is m.key h.key, refl)

  absent : (key : List ℕ) → Without key ms → (limit : ℕ) → length (dict MsgPack ms) ≤ limit → member_in limit key (dict MsgPack ms) ≡ []
  absent key a limit l =
      member-none limit (dict MsgPack ms) (map written ms) l map_is key
      (λ p i. all_in (λ p. ¬ Str key p.key) (map written ms) p
      (all-image (λ m. GoodMember (Inner MsgPack) m × ¬ (key ≡ m.key)) (λ p. ¬ Str key p.key) written
      (λ m (h, d) k. d (key-is m.key key h.key k)) ms
      (all_both (GoodMember (Inner MsgPack)) (λ m. ¬ (key ≡ m.key)) _ (λ m h d. (h, d)) ms g.each a)) i)

-- ---- what is written is bytes
list-formed : (es : List (List ℕ)) → All Bytes es → Bytes (list MsgPack es)
unfolding pack_layer
list-formed es a = list-bytes (λ (e : List ℕ). e) es a

dict-formed : (ms : List (Member (List ℕ))) → Fit MsgPack ms → Bytes (dict MsgPack ms)
unfolding pack_layer
dict-formed ms g =
    dict-bytes (λ (e : List ℕ). e) ms
    (all_map (GoodMember (Inner MsgPack)) (GoodMember Bytes) (λ m h. record { key = h.key; value = h.value.1 }) ms g.each)

number_short : (n : ℕ) → length (pack_scalar (Whole n)) ≤ 16
unfolding pack_scalar
number_short n = omega (arith, whole-nine n)

pub pack-laws : Laws MsgPack
unfolding pack_scalar
pack-laws = record {
  scalar = scalar;
  scalar-formed = scalar-bytes;
  number = λ n (l, m). (l, m, whole_is n (omega arith));
  string = string;
  number_short = λ n r. number_short n;
  listed = listed;
  list-value = λ d es h a. inr (inl (es, a, listed es h));
  list-formed = list-formed;
  list-some = list-some;
  list-short = list-short;
  list-part = λ t g. inr (inl g);
  options = λ ms g. (map written ms, map_is ms g);
  has = has;
  absent = absent;
  dict-formed = dict-formed;
  dict-part = λ t g. inr (inr g);
}
