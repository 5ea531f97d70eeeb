-- specs/MsgPack.antt and specs/Grammar.antt agree: `value` ends where a value of the format's own table ends. Assumes nothing.
use Rattle.std.specs.Prelude.{Some, None, Option}
use Prim.Native.Nat.{ℕ, zero, suc, ◌+◌, ◌-◌, ◌<◌}
use mathlib.Core.List.{List, [], ◌∷◌, ◌++◌, append_assoc, append-nil}
use mathlib.Core.Bool.{true, false}
use mathlib.Core.Logic.{inl, inr, ◌↔◌}
use mathlib.Core.Path.{◌≡◌, refl, sym, ap, subst, ◌∙◌}
use native.Mathlib.Omega.{arith}
use lib.ListN.{length, drop, length-append}
use lib.Dec.{eqb, leb, ltb, lit<}
use borrow.Author.Tests.{eqb-true, ltb-true}
use Rattle.seq.specs.Lists.{joined}
use Rattle.seq.specs.Bytes.{part, among}
use Rattle.seq.proofs.Logic.{split, cond-case}
use Rattle.seq.proofs.Rules.{all_true}
use Rattle.utf8.specs.Utf8.{well_formed}
use Rattle.utf8.specs.Table.{Encoded}
use Rattle.utf8.proofs.Table.{utf8-table}
use Rattle.lex.specs.Grammar.{Is, ◌·◌}
use Rattle.lex.proofs.Stands.{Reads, stands-next, reads_then, reads_as, to_same, to-bad, reads_all}
use Rattle.json_text.proofs.Items.{reads-own, reads-part}
use Rattle.msgpack.specs.declared.Head.{Head}
use Rattle.msgpack.specs.Head.{nil, no, yes, whole, below, str, opaque, array, map, none, signed, form, forms, form_of, number, half, head}
use Rattle.msgpack.specs.Head.{signed_head, head_of, head_at}
use Rattle.msgpack.specs.MsgPack.{bytes, text, times, pairs, by_head, value, array_at, map_at}
use Rattle.msgpack.specs.Grammar.{Code, Any, Number, StrHead, BinHead, ExtHead, Integer, Scalar, Value, both}
use Rattle.msgpack.proofs.Heads.{form-whole, form-below}
use Rattle.msgpack.proofs.Laws.{head_done, head-str, head-opaque, value-array, value-map, value-flat, flat-none}
use Rattle.msgpack.proofs.Rows.{Told, told, stands-in, sign-is, any-is, alone-is, str-head-is, array-head-is, map-head-is, bin-head-is, ext-head-is}
use Rattle.msgpack.proofs.Items.{bytes-found, bytes-is, text-found, text-stands, times-found, times-is, pairs-found, pairs_is}

-- ---- what is read is a value of the grammar
scalar-value : (d : ℕ) (t : List ℕ) → Scalar t → Value d t
scalar-value zero t g = g
scalar-value (suc d) t g = inl g

-- by the head h at a place, which is none of those that start no value
module _ (d : ℕ) (s : List ℕ) (i e : ℕ) (h : Head) (w : Told s i h) where
  first : Reads (Is w.bytes) s i h.end
  first = record { text = w.bytes; rest = w.rest; stands = w.stands; ends = w.ends; good = refl }

  flat-found : h.kind < str → Some h.end ≡ Some e → Reads (Value d) s i e
  flat-found k q =
      subst (λ (x : ℕ). Reads (Value d) s i x) (to_same refl q)
      (reads_as s i h.end (λ t p. scalar-value d t (subst Scalar (sym p) (w.flat k))) first)

  blob-found : h.kind ≡ opaque → bytes s h.end h.n ≡ Some e → Reads (Value d) s i e
  blob-found k q =
      reads_as s i e (λ t (a, u, et, ea, l). scalar-value d t (subst Scalar (sym (et ∙ rw ea)) (w.blob k u l)))
      (reads_then s i h.end e first (bytes-found s h.end h.n e q))

  str-found : h.kind ≡ str → text s h.end h.n ≡ Some e → Reads (Value d) s i e
  str-found k q =
      let (g, b) = text-found s h.end h.n e q in
      let x = bytes-found s h.end h.n e b in
      let formed : well_formed x.text ≡ true =
      let m : e ≡ h.end + h.n = let p = x.ends in omega (arith, x.good) in
      sym (ap well_formed (sym (ap (λ (k : ℕ). part h.end k s) m) ∙ reads-part x)) ∙ g in
      reads_as s i e (λ t (a, u, et, ea, eu).
      scalar-value d t (inr (inr (inr (inr (inr (
        x.text,
        (utf8-table x.text).0 formed,
        (w.bytes, x.text, et ∙ rw (ea, eu), subst (λ (n : ℕ). StrHead n w.bytes) (sym x.good) (w.text k), refl),
      )))))))
      (reads_then s i h.end e first (reads-own x))

by-head : (d : ℕ) (s : List ℕ) (i e : ℕ) (h : Head) → ((h.kind ≡ none → ⊥) → Told s i h) → (arrays maps : ℕ → ℕ → Option ℕ)
    → (Told s i h → h.kind ≡ array → arrays h.n h.end ≡ Some e → Reads (Value d) s i e)
    → (Told s i h → h.kind ≡ map → maps h.n h.end ≡ Some e → Reads (Value d) s i e) → by_head arrays maps s h ≡ Some e → Reads (Value d) s i e
unfolding by_head
by-head d s i e h w arrays maps l m q =
    split (ltb h.kind str) (λ t. let k = ltb-true h.kind str t in flat-found d s i e h (w (λ z. omega arith)) k (rw t at q)) λ n1.
    split (eqb h.kind str) (λ t. let k = eqb-true h.kind str t in str-found d s i e h (w (λ z. omega arith)) k (rw (n1, t) at q)) λ n2.
    split (eqb h.kind opaque) (λ t. let k = eqb-true h.kind opaque t in blob-found d s i e h (w (λ z. omega arith)) k (rw (n1, n2, t) at q)) λ n3.
    split (eqb h.kind array) (λ t. let k = eqb-true h.kind array t in l (w (λ z. omega arith)) k (rw (n1, n2, n3, t) at q)) λ n4.
    split (eqb h.kind map) (λ t. let k = eqb-true h.kind map t in m (w (λ z. omega arith)) k (rw (n1, n2, n3, n4, t) at q))
    (λ t. to-bad (rw (n1, n2, n3, n4, t) at q) refl)

-- what an array and a map hold, where the values in it are read as those of the grammar
module _ (d : ℕ) (s : List ℕ) (found : (i e : ℕ) → value d s i ≡ Some e → Reads (Value d) s i e) (i e : ℕ) (h : Head) (w : Told s i h) where
  array-found : h.kind ≡ array → times (value d s) h.n h.end ≡ Some e → Reads (Value (suc d)) s i e
  array-found k q =
      reads_as s i e (λ t (a, u, et, ea, (es, l, gs, eu)). inr (inl (es, gs, (w.bytes, u, et ∙ rw ea, rw l (w.list k), eu))))
      (reads_then s i h.end e (first d s i e h w) (times-found (Value d) (value d s) s found h.n h.end e q))

  map_found : h.kind ≡ map → pairs (value d s) s [] h.n h.end ≡ Some e → Reads (Value (suc d)) s i e
  map_found k q =
      reads_as s i e (λ t (a, u, et, ea, (ps, l, gs, apart, news, eu)). inr (inr (ps, gs, apart, (w.bytes, u, et ∙ rw ea, rw l (w.dict k), eu))))
      (reads_then s i h.end e (first d s i e h w) (pairs-found (Value d) (value d s) s found h.n [] h.end e q))

pub value_found : (d : ℕ) (s : List ℕ) (i e : ℕ) → value d s i ≡ Some e → Reads (Value d) s i e
unfolding value
value_found zero s i e h = by-head zero s i e (head_at s i) (told s i) _ _ (λ w k q. to-bad q refl) (λ w k q. to-bad q refl) h
value_found (suc d) s i e h =
    by-head (suc d) s i e (head_at s i) (told s i) _ _ (array-found d s (value_found d s) i e (head_at s i))
    (map_found d s (value_found d s) i e (head_at s i)) h

-- the bytes that were read
pub value-part : (d : ℕ) (s : List ℕ) (i e : ℕ) → value d s i ≡ Some e → Value d (part i e s)
value-part d s i e h = let x = value_found d s i e h in subst (Value d) (sym (reads-part x)) x.good

-- ---- and a value of the grammar that stands there is read up to its end
-- a head has a first byte
some : (b w n : ℕ) (a : List ℕ) → (Code b · Number w n) a → 0 < length a
some b w n a (x, y, e, ex, g) = rw (e, ex) (omega arith)

bin-some : (n : ℕ) (a : List ℕ) → BinHead n a → 0 < length a
bin-some n a (inl g) = some 0xc4 1 n a g
bin-some n a (inr (inl g)) = some 0xc5 2 n a g
bin-some n a (inr (inr g)) = some 0xc6 4 n a g

str-some : (n : ℕ) (a : List ℕ) → StrHead n a → 0 < length a
str-some n a (inl (l, e)) = rw e (lit< tt)
str-some n a (inr (inl g)) = some 0xd9 1 n a g
str-some n a (inr (inr (inl g))) = some 0xda 2 n a g
str-some n a (inr (inr (inr g))) = some 0xdb 4 n a g

ext-some : (n : ℕ) (a : List ℕ) → ExtHead n a → 0 < length a
ext-some n a (inl g) = some 0xc7 1 n a g
ext-some n a (inr (inl g)) = some 0xc8 2 n a g
ext-some n a (inr (inr (inl g))) = some 0xc9 4 n a g
ext-some n a (inr (inr (inr (inl (q, e))))) = rw e (lit< tt)
ext-some n a (inr (inr (inr (inr (inl (q, e)))))) = rw e (lit< tt)
ext-some n a (inr (inr (inr (inr (inr (inl (q, e))))))) = rw e (lit< tt)
ext-some n a (inr (inr (inr (inr (inr (inr (inl (q, e)))))))) = rw e (lit< tt)
ext-some n a (inr (inr (inr (inr (inr (inr (inr (q, e)))))))) = rw e (lit< tt)

none_seen : (u : List ℕ) → among u [] ≡ false
unfolding among
none_seen u = refl

-- a str that was read
value-text : (d : ℕ) (s : List ℕ) (a e : ℕ) → value d s a ≡ Some e → (head_at s a).kind ≡ str → text s (head_at s a).end (head_at s a).n ≡ Some e
value-text d s a e h k =
    head-str (λ n e. None) (λ n e. None) s (head_at s a) k ∙ value-flat d s a (head_at s a) refl (λ z. omega (arith, k)) (λ z. omega (arith, k)) ∙ h

module _ (d : ℕ) (s : List ℕ) (i : ℕ) (t r : List ℕ) (st : drop i s ≡ t ++ r) where
  -- by the head that stands there
  plain-is : (h : Head) → head_at s i ≡ h → h.kind < str → value d s i ≡ Some h.end
  plain-is h q k =
      sym (head_done (λ n e. None) (λ n e. None) s h k ∙ value-flat d s i h (sym q) (λ z. omega arith) (λ z. omega arith))

  any_value : (b k w : ℕ) → form k w 0 ≡ form_of b → k < str → (Code b · Any w) t → value d s i ≡ Some (i + length t)
  any_value b k w ef l g = let (n, q) = any-is s i t r st b k w ef (λ z. omega arith) g in plain-is (head k n (i + length t)) q l

  sign-value : (b w : ℕ) → form signed w 0 ≡ form_of b → (Code b · Any w) t → value d s i ≡ Some (i + length t)
  unfolding signed_head
  sign-value b w ef (a, u, e, ea, l) =
      let q = sign-is s i t r st b u (e ∙ ap (λ (x : List ℕ). x ++ u) ea) w ef l in
      split (ltb (number s (i + 1) w) (half w))
      (λ k. plain-is (head whole (number s (i + 1) w) (i + length t)) (rw k at q) (lit< tt))
      (λ k. plain-is (head below _ (i + length t)) (rw k at q) (lit< tt))

  alone-value : (b k x : ℕ) → form k 0 x ≡ form_of b → k < str → Code b t → value d s i ≡ Some (i + length t)
  alone-value b k x ef l g = plain-is (head k x (i + length t)) (alone-is s i t r st b k x x ef (λ z. omega arith) refl g) l

  blob-is : (a u : List ℕ) → t ≡ a ++ u → (drop i s ≡ a ++ (u ++ r) → head_at s i ≡ head opaque (length u) (i + length a)) → 0 < length a
      → value d s i ≡ Some (i + length t)
  blob-is a u e f l =
      let there : drop i s ≡ a ++ (u ++ r) = st ∙ ap (λ (x : List ℕ). x ++ r) e ∙ append_assoc a u r in
      let inside = stands-in s i a (u ++ r) there l in
      let q : i + length a + length u ≡ i + length t = omega (arith, ap length e ∙ length-append a u) in
      sym (head-opaque (λ n e. None) (λ n e. None) s (head opaque (length u) (i + length a)) refl
      ∙ value-flat d s i (head opaque (length u) (i + length a)) (sym (f there)) (λ z. omega arith) (λ z. omega arith))
      ∙ bytes-is s (i + length a) u r inside (stands-next s i a (u ++ r) there) ∙ ap Some q

  str-is : (a u : List ℕ) → t ≡ a ++ u → StrHead (length u) a → Encoded u → 0 < length a → value d s i ≡ Some (i + length t)
  str-is a u e g k l =
      let there : drop i s ≡ a ++ (u ++ r) = st ∙ ap (λ (x : List ℕ). x ++ r) e ∙ append_assoc a u r in
      let inside = stands-in s i a (u ++ r) there l in
      let q : i + length a + length u ≡ i + length t = omega (arith, ap length e ∙ length-append a u) in
      sym (head-str (λ n e. None) (λ n e. None) s (head str (length u) (i + length a)) refl
      ∙ value-flat d s i (head str (length u) (i + length a)) (sym (str-head-is s i a (u ++ r) there (length u) g)) (λ z. omega arith) (λ z. omega arith))
      ∙ text-stands s (i + length a) u r inside (stands-next s i a (u ++ r) there) ((utf8-table u).1 k) ∙ ap Some q

  integer-is : Integer t → value d s i ≡ Some (i + length t)
  unfolding form_of forms
  integer-is (inl (b, l, e)) = alone-value b whole b (form-whole b b (omega arith) refl) (lit< tt) e
  integer-is (inr (inl (b, l, e))) = alone-value b below (0xff - b) (form-below b (0xff - b) l refl) (lit< tt) e
  integer-is (inr (inr (inl g))) = any_value 0xcc whole 1 refl (lit< tt) g
  integer-is (inr (inr (inr (inl g)))) = any_value 0xcd whole 2 refl (lit< tt) g
  integer-is (inr (inr (inr (inr (inl g))))) = any_value 0xce whole 4 refl (lit< tt) g
  integer-is (inr (inr (inr (inr (inr (inl g)))))) = any_value 0xcf whole 8 refl (lit< tt) g
  integer-is (inr (inr (inr (inr (inr (inr (inl g))))))) = sign-value 0xd0 1 refl g
  integer-is (inr (inr (inr (inr (inr (inr (inr (inl g)))))))) = sign-value 0xd1 2 refl g
  integer-is (inr (inr (inr (inr (inr (inr (inr (inr (inl g))))))))) = sign-value 0xd2 4 refl g
  integer-is (inr (inr (inr (inr (inr (inr (inr (inr (inr g))))))))) = sign-value 0xd3 8 refl g

  float_is : (b n : ℕ) → form opaque 0 n ≡ form_of b → (Code b · Any n) t → value d s i ≡ Some (i + length t)
  float_is b n ef (a, u, e, ea, l) =
      blob-is a u e (λ there. alone-is s i a (u ++ r) there b opaque n (length u) ef (λ z. omega arith) l ea) (rw ea (lit< tt))

  scalar_is : Scalar t → value d s i ≡ Some (i + length t)
  unfolding form_of forms
  scalar_is (inl (inl e)) = alone-value 0xc0 nil 0 refl (lit< tt) e
  scalar_is (inl (inr (inl e))) = alone-value 0xc2 no 0 refl (lit< tt) e
  scalar_is (inl (inr (inr e))) = alone-value 0xc3 yes 0 refl (lit< tt) e
  scalar_is (inr (inl g)) = integer-is g
  scalar_is (inr (inr (inl (inl g)))) = float_is 0xca 4 refl g
  scalar_is (inr (inr (inl (inr g)))) = float_is 0xcb 8 refl g
  scalar_is (inr (inr (inr (inl (n, (a, u, e, g, l)))))) =
      blob-is a u e (λ there. bin-head-is s i a (u ++ r) there n g ∙ rw l) (bin-some n a g)
  scalar_is (inr (inr (inr (inr (inl (n, (a, u, e, g, (y, v, eu, ly, lv)))))))) =
      let q : length u ≡ 1 + n = omega (arith, ap length eu ∙ length-append y v, ly, lv) in
      blob-is a u e (λ there. ext-head-is s i a (u ++ r) there n g ∙ rw q) (ext-some n a g)
  scalar_is (inr (inr (inr (inr (inr (u, k, (a, v, e, g, q))))))) = str-is a u (e ∙ ap (λ (x : List ℕ). a ++ x) q) g k (str-some (length u) a g)

pub value-is : (d : ℕ) (s : List ℕ) (i : ℕ) (t r : List ℕ) → drop i s ≡ t ++ r → Value d t → value d s i ≡ Some (i + length t)
unfolding array_at map_at
value-is zero s i t r h g = scalar_is zero s i t r h g
value-is (suc d) s i t r h (inl g) = scalar_is (suc d) s i t r h g
value-is (suc d) s i t r h (inr (inl (es, gs, (a, u, e, g, q)))) =
    let whole : t ≡ a ++ joined (λ (x : List ℕ). x) es = e ∙ ap (λ (x : List ℕ). a ++ x) q in
    let there : drop i s ≡ a ++ (joined (λ (x : List ℕ). x) es ++ r) = h ∙ ap (λ (x : List ℕ). x ++ r) whole ∙ append_assoc a _ r in
    let n : i + length a + length (joined (λ (x : List ℕ). x) es) ≡ i + length t = omega (arith, ap length whole ∙ length-append a (joined (λ (x : List ℕ). x) es)) in
    sym (value-array (suc d) s i (head array (length es) (i + length a)) (sym (array-head-is s i a _ there (length es) g)) refl)
    ∙ times-is (Value d) (value d s) s (value-is d s) es (i + length a) r (stands-next s i a _ there) gs ∙ ap Some n
value-is (suc d) s i t r h (inr (inr (ps, gs, apart, (a, u, e, g, q)))) =
    let whole : t ≡ a ++ joined both ps = e ∙ ap (λ (x : List ℕ). a ++ x) q in
    let there : drop i s ≡ a ++ (joined both ps ++ r) = h ∙ ap (λ (x : List ℕ). x ++ r) whole ∙ append_assoc a _ r in
    let n : i + length a + length (joined both ps) ≡ i + length t = omega (arith, ap length whole ∙ length-append a (joined both ps)) in
    sym (value-map (suc d) s i (head map (length ps) (i + length a)) (sym (map-head-is s i a _ there (length ps) g)) refl)
    ∙ pairs_is (Value d) (value d s) s (value-is d s) (value-text d s) ps [] (i + length a) r (stands-next s i a _ there) gs apart
    (all_true _ (λ p u k. none_seen u) ps) ∙ ap Some n

-- the format's table leaves one first byte unused
unused : (t : List ℕ) → (head_at (0xc1 ∷ t) 0).kind ≡ none
unfolding head_at head_of form_of forms
unused t = cond-case (λ (h : Head). h.kind ≡ none) (leb (0 + 1 + 0) (length (0xc1 ∷ t))) _ _ (λ q. refl) (λ q. refl)

pub never-used : (d : ℕ) (t : List ℕ) → ¬ Value d (0xc1 ∷ t)
never-used d t g =
    let k = unused t in
    let bad = flat-none (0xc1 ∷ t) (head_at (0xc1 ∷ t) 0) (omega arith) (λ z. omega arith) (λ z. omega arith)
    ∙ value-flat d (0xc1 ∷ t) 0 (head_at (0xc1 ∷ t) 0) refl (λ z. omega arith) (λ z. omega arith) in
    to-bad (value-is d (0xc1 ∷ t) 0 (0xc1 ∷ t) [] (sym (append-nil (0xc1 ∷ t))) g) (sym bad)

-- a text that is one value
pub packed-value : (d : ℕ) (t : List ℕ) → (value d t 0 ≡ Some (length t)) ↔ Value d t
packed-value d t = (
  λ h. reads_all (value_found d t 0 (length t) h),
  λ g. let z : 0 + length t ≡ length t = omega arith in value-is d t 0 t [] (sym (append-nil t)) g ∙ ap Some z,
)
