-- What values/specs/Stands.antt reads from a MessagePack text and what specs/MsgPack.antt says that the text means are one. Assumes nothing.
-- `value-is`: a text that means a value, wherever it stands, is read as that value, and no byte behind it.
-- `value_found`: what is read as a value is a text that means it, where each byte is below 256.
-- `means`: both, of a text that is one value; `only`: it means one value alone.
use Prim.Native.Nat.{ℕ, zero, suc, ◌+◌, ◌≤◌, ◌<◌}
use mathlib.Core.List.{List, [], ◌∷◌, ◌++◌, append-nil}
use mathlib.Core.Logic.{◌↔◌}
use mathlib.Core.Path.{◌≡◌, refl, sym, ap, subst, ◌∙◌}
use native.Mathlib.Omega.{arith}
use lib.ListN.{length, drop, length-append}
use borrow.Author.Tests.{ne_eqb}
use Rattle.seq.specs.declared.Format.TheVariants.{MsgPack}
use Rattle.seq.specs.Lists.{All}
use Rattle.lex.specs.Grammar.{Language}
use Rattle.lex.proofs.Stands.{Reads, stands-next, stands_parts, reads_then, reads_none, reads_all}
use Rattle.msgpack.specs.declared.Head.{Head}
use Rattle.msgpack.specs.Head.{str, array, map, head_at}
use Rattle.msgpack.specs.Grammar.{ArrayHead, MapHead}
use Rattle.msgpack.proofs.Rows.{told, array-head-is, map-head-is}
use Rattle.values.specs.Value.{Value}
use Rattle.values.specs.Value.Layer.{Plain, Items, Members}
use Rattle.values.specs.Read.{Read, made}
use Rattle.values.specs.Read.Read.{Gives}
use Rattle.values.specs.Stands.{pack_scalar_at, items, pack_member_at, pack_layer_at, stands}
use Rattle.values.proofs.Given.{same-value, same_place, then-gives, made-gives}
use Rattle.values.proofs.GivenPack.{pack-member, pack-layer}
use Rattle.meanings.specs.MsgPack.{Each, MeansMember, MeansLayer, Means}
use Rattle.meanings.proofs.MsgPackScalars.{text-is, scalar_is, IsByte, scalar-kind, text-found, scalar-found}

-- ---- what is read from place i up to e as a value stands there, and what stands there is read
abbrev pub Found : {A : Type 0} → (A → Language) → (ℕ → Read A) → List ℕ → Type 0
Found {A} Inner item s = (i : ℕ) (v : A) (e : ℕ) → item i ≡ Gives v e → Reads (Inner v) s i e

abbrev pub Taken : {A : Type 0} → (A → Language) → (ℕ → Read A) → List ℕ → Type 0
Taken {A} Inner item s = (i : ℕ) (t r : List ℕ) → drop i s ≡ t ++ r → (v : A) → Inner v t → item i ≡ Gives v (i + length t)

-- ---- values one after the other
module _ {A : Type 0} (Inner : A → Language) (item : ℕ → Read A) (s : List ℕ) where
  items-found : Found Inner item s → (n a : ℕ) (vs : List A) (e : ℕ) → items item n a ≡ Gives vs e → (length vs ≡ n) × Reads (Each Inner vs) s a e
  unfolding items
  items-found f zero a vs e g = rw (sym (same-value refl g)) (refl, reads_none s a e (same_place refl g) refl)
  items-found f (suc n) a vs e g =
      let (v, m, p, q) = then-gives (item a) (λ v e. made (λ vs. v ∷ vs) (items item n e)) vs e g in
      let (us, k, w) = made-gives (λ vs. v ∷ vs) (items item n m) vs e q in
      let (l, x) = items-found f n m us e k in
      rw w (ap suc l, reads_then s a m e (f a v m p) x)

  items-is : Taken Inner item s → (vs : List A) (a : ℕ) (t r : List ℕ) → drop a s ≡ t ++ r → Each Inner vs t
      → items item (length vs) a ≡ Gives vs (a + length t)
  unfolding items
  items-is f [] a t r h e = let z : a ≡ a + 0 = omega arith in rw e (ap (λ (x : ℕ). Gives [] x) z)
  items-is f (v ∷ vs) a t r h (b, c, e, g, k) =
      let st = stands_parts s a t b c r e h in
      let n : a + length b + length c ≡ a + length t = omega (arith, ap length e ∙ length-append b c) in
      rw (f a b (c ++ r) st v g, items-is f vs (a + length b) c r (stands-next s a b (c ++ r) st) k, n)

-- ---- members, arrays and maps
module _ {A : Type 0} (Inner : A → Language) (item : ℕ → Read A) (s : List ℕ) where
  member-found : Found Inner item s → Found (MeansMember Inner) (pack_member_at item s) s
  member-found f i m e g =
      let (j, k, p) = pack-member item s i m e g in
      reads_then s i j e (text-found s i m.key j k) (f j m.value e p)

  member_is : Taken Inner item s → Taken (MeansMember Inner) (pack_member_at item s) s
  unfolding pack_member_at
  member_is f i t r h m (a, b, e, k, g) =
      let st = stands_parts s i t a b r e h in
      let n : i + length a + length b ≡ i + length t = omega (arith, ap length e ∙ length-append a b) in
      rw (text-is s i a (b ++ r) st m.key k, f (i + length a) b r (stands-next s i a (b ++ r) st) m.value g, n)

  -- the head that was read
  array-found : (i n : ℕ) → (head_at s i).kind ≡ array → n ≡ (head_at s i).n → Reads (ArrayHead n) s i (head_at s i).end
  array-found i n k q =
      let w = told s i (λ z. omega arith) in
      record { text = w.bytes; rest = w.rest; stands = w.stands; ends = w.ends; good = subst (λ (m : ℕ). ArrayHead m w.bytes) (sym q) (w.list k) }

  map_found : (i n : ℕ) → (head_at s i).kind ≡ map → n ≡ (head_at s i).n → Reads (MapHead n) s i (head_at s i).end
  map_found i n k q =
      let w = told s i (λ z. omega arith) in
      record { text = w.bytes; rest = w.rest; stands = w.stands; ends = w.ends; good = subst (λ (m : ℕ). MapHead m w.bytes) (sym q) (w.dict k) }

  layer-found : All IsByte s → Found Inner item s → Found (MeansLayer Inner) (λ i. pack_layer_at item s (head_at s i)) s
  layer-found small f i v e g =
      pack-layer s (head_at s i) item (λ v e. Reads (MeansLayer Inner v) s i e) v e g
      (λ vs k p.
      let (l, x) = items-found Inner item s f _ _ vs e p in
      reads_then s i (head_at s i).end e (array-found i (length vs) k l) x)
      (λ ms k p.
      let (l, x) = items-found (MeansMember Inner) (pack_member_at item s) s (member-found f) _ _ ms e p in
      reads_then s i (head_at s i).end e (map_found i (length ms) k l) x)
      (λ u p. scalar-found s small i u e p)

  plain-is : (h : Head) → h.kind ≤ str → pack_layer_at item s h ≡ made Plain (pack_scalar_at s h)
  unfolding pack_layer_at
  plain-is h l = rw (ne_eqb h.kind array (λ z. omega arith), ne_eqb h.kind map (λ z. omega arith))

  layer-is : Taken Inner item s → Taken (MeansLayer Inner) (λ i. pack_layer_at item s (head_at s i)) s
  unfolding pack_layer_at
  layer-is f i t r h (Plain v) g =
      let q = scalar_is s i t r h v g in
      plain-is (head_at s i) (scalar-kind s (head_at s i) v (i + length t) q) ∙ ap (made Plain) q
  layer-is f i t r h (Items vs) (a, b, e, k, g) =
      let st = stands_parts s i t a b r e h in
      let n : i + length a + length b ≡ i + length t = omega (arith, ap length e ∙ length-append a b) in
      rw (
        array-head-is s i a (b ++ r) st (length vs) k,
        items-is Inner item s f vs (i + length a) b r (stands-next s i a (b ++ r) st) g,
        n,
      )
  layer-is f i t r h (Members ms) (a, b, e, k, g) =
      let st = stands_parts s i t a b r e h in
      let n : i + length a + length b ≡ i + length t = omega (arith, ap length e ∙ length-append a b) in
      rw (
        map-head-is s i a (b ++ r) st (length ms) k,
        items-is (MeansMember Inner) (pack_member_at item s) s (member_is f) ms (i + length a) b r (stands-next s i a (b ++ r) st) g,
        n,
      )

-- ---- values
pub value_found : (s : List ℕ) → All (λ b. b < 256) s → (depth : ℕ) → Found (Means depth) (stands MsgPack depth s) s
unfolding stands
value_found s small zero i v e g = scalar-found s small i v e g
value_found s small (suc depth) i v e g = layer-found (Means depth) (stands MsgPack depth s) s small (value_found s small depth) i v e g

pub value-is : (s : List ℕ) (depth : ℕ) → Taken (Means depth) (stands MsgPack depth s) s
unfolding stands
value-is s zero i t r h v g = scalar_is s i t r h v g
value-is s (suc depth) i t r h v g = layer-is (Means depth) (stands MsgPack depth s) s (value-is s depth) i t r h v g

-- a text that is one value
pub means : (depth : ℕ) (t : List ℕ) (v : Value depth) → All (λ b. b < 256) t → (stands MsgPack depth t 0 ≡ Gives v (length t)) ↔ Means depth v t
means depth t v small = (
  λ h. reads_all (value_found t small depth 0 v (length t) h),
  λ g. let z : 0 + length t ≡ length t = omega arith in value-is t depth 0 t [] (sym (append-nil t)) v g ∙ ap (λ (e : ℕ). Gives v e) z,
)

-- and it means no other value
pub only : (depth : ℕ) (t : List ℕ) (v w : Value depth) → Means depth v t → Means depth w t → v ≡ w
only depth t v w g k = same-value (value-is t depth 0 t [] (sym (append-nil t)) v g) (value-is t depth 0 t [] (sym (append-nil t)) w k)
