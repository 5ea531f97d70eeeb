-- MessagePack values that open no array and no map: where a text stands that means one of them, values/specs/Stands.antt reads it as that one, and
-- what it reads as one is a text that means it. Assumes nothing.
use Rattle.std.specs.Prelude.{Some}
use Prim.Native.Nat.{ℕ, zero, suc, ◌+◌, ◌*◌, ◌-◌, ◌^◌, ◌≤◌, ◌<◌}
use mathlib.Core.List.{List, [], ◌∷◌, ◌++◌}
use mathlib.Core.Bool.{true, false}
use mathlib.Core.Logic.{inl, inr, ⊎_elim}
use mathlib.Core.Path.{◌≡◌, refl, sym, ap, subst, ◌∙◌}
use native.Mathlib.Decide.{dec_lt}
use native.Mathlib.Nat.{pow-suc}
use native.Mathlib.Omega.{arith}
use lib.ListN.{length, drop, take, take-append-drop}
use lib.Seq.{take_all}
use borrow.Author.Tests.{le-leb, le-ltb}
use Rattle.seq.specs.Bytes.{part}
use Rattle.seq.specs.Lists.{All}
use Rattle.seq.proofs.Rules.{all-front, all_back}
use Rattle.utf8.specs.Utf8.{well_formed}
use Rattle.utf8.proofs.Table.{utf8-table}
use Rattle.lex.specs.Grammar.{◌·◌}
use Rattle.lex.proofs.Stands.{Reads, stands-next, stands_parts}
use Rattle.json_text.proofs.Items.{reads-with}
use Rattle.msgpack.specs.declared.Head.{Head}
use Rattle.msgpack.specs.Head.{nil, no as off, yes as on, whole, below, str, opaque, signed, form, forms, form_of, number, half, head, signed_head, head_at}
use Rattle.msgpack.specs.MsgPack.{bytes, text, by_head, value}
use Rattle.msgpack.specs.Grammar.{Code, Any, Number, Integer, Scalar as IsScalar, Str}
use Rattle.msgpack.proofs.Heads.{form-whole, form-below, sign-whole}
use Rattle.msgpack.proofs.Rows.{number-found, number_is, sign-is, count-is, fix_is, alone-is, bin-head-is, ext-head-is}
use Rattle.msgpack.proofs.Items.{str-told, str-read}
use Rattle.msgpack.proofs.Grammar.{value_found, value-is}
use Rattle.arrays.specs.Grammar.{Signed, Whole as IsWhole}
use Rattle.values.specs.Value.{Scalar}
use Rattle.values.specs.Value.Scalar.{Null, Flag, Whole, Below, Text}
use Rattle.values.specs.Read.{made}
use Rattle.values.specs.Read.Read.{Gives}
use Rattle.values.specs.Stands.{text_at, pack_text_at, pack_scalar_at}
use Rattle.values.proofs.Given.{same-value, gives-not}
use Rattle.values.proofs.GivenPack.{Told, pack-scalar}
use Rattle.meanings.specs.MsgPack.{Minus, IsBelow, IsText, MeansScalar}

-- ---- what stands is read
module _ (s : List ℕ) (i : ℕ) (t r : List ℕ) (h : drop i s ≡ t ++ r) where
  -- a number with a sign
  sign-head : (b w n : ℕ) → form signed w 0 ≡ form_of b → (Code b · Number w n) t → head_at s i ≡ signed_head w n (i + length t)
  sign-head b w n ef (a, u, e, ea, g) =
      let et : t ≡ b ∷ u = e ∙ ap (λ (x : List ℕ). x ++ u) ea in
      let (lu, nu) = number_is s (i + 1) w n u r (stands-next s i (b ∷ []) (u ++ r) (h ∙ ap (λ (x : List ℕ). x ++ r) et)) g in
      sign-is s i t r h b u et w ef lu ∙ ap (λ (x : ℕ). signed_head w x (i + length t)) nu

  signed-head : (b w f n : ℕ) → f ≡ half w → form signed w 0 ≡ form_of b → Signed b w f n t → head_at s i ≡ head whole n (i + length t)
  signed-head b w f n eh ef (m, g) = sign-head b w n ef g ∙ sym (sign-whole w n (i + length t) f eh m)

  whole-head : (n : ℕ) → IsWhole n t → head_at s i ≡ head whole n (i + length t)
  unfolding form_of forms half
  whole-head n (inl g) = fix_is s i t r h 0 127 whole n (λ l. form-whole (0 + n) n (omega arith) (omega arith)) (λ z. omega arith) g
  whole-head n (inr (inl g)) = count-is s i t r h 0xcc whole 1 0 n n refl (λ z. omega arith) (omega arith) g
  whole-head n (inr (inr (inl g))) = count-is s i t r h 0xcd whole 2 0 n n refl (λ z. omega arith) (omega arith) g
  whole-head n (inr (inr (inr (inl g)))) = count-is s i t r h 0xce whole 4 0 n n refl (λ z. omega arith) (omega arith) g
  whole-head n (inr (inr (inr (inr (inl g))))) = count-is s i t r h 0xcf whole 8 0 n n refl (λ z. omega arith) (omega arith) g
  whole-head n (inr (inr (inr (inr (inr (inl g)))))) = signed-head 0xd0 1 0x80 n refl refl g
  whole-head n (inr (inr (inr (inr (inr (inr (inl g))))))) = signed-head 0xd1 2 0x8000 n refl refl g
  whole-head n (inr (inr (inr (inr (inr (inr (inr (inl g)))))))) = signed-head 0xd2 4 0x80000000 n refl refl g
  whole-head n (inr (inr (inr (inr (inr (inr (inr (inr g)))))))) = signed-head 0xd3 8 0x8000000000000000 n refl refl g

  minus-head : (b w f n : ℕ) → f ≡ half w → 256 ^ w ≡ 2 * f → form signed w 0 ≡ form_of b → Minus b w f n t → head_at s i ≡ head below n (i + length t)
  unfolding signed_head
  minus-head b w f n eh p ef (m, l, e, g) =
      let q : 2 * half w - 1 - m ≡ n = rw (← eh) (omega arith) in
      sign-head b w m ef g ∙ rw (le-ltb m (half w) (rw (← eh) (omega arith)), q)

  below-head : (n : ℕ) → IsBelow n t → head_at s i ≡ head below n (i + length t)
  unfolding form_of forms half
  below-head n (inl (b, l, e, g)) = alone-is s i t r h b below (0xff - b) n (form-below b (0xff - b) (omega arith) refl) (λ z. omega arith) (omega arith) g
  below-head n (inr (inl g)) = minus-head 0xd0 1 0x80 n refl refl refl g
  below-head n (inr (inr (inl g))) = minus-head 0xd1 2 0x8000 n refl refl refl g
  below-head n (inr (inr (inr (inl g)))) = minus-head 0xd2 4 0x80000000 n refl refl refl g
  below-head n (inr (inr (inr (inr g)))) = minus-head 0xd3 8 0x8000000000000000 n refl refl refl g

  pub text-is : (u : List ℕ) → IsText u t → pack_text_at s (head_at s i) ≡ Gives u (i + length t)
  unfolding pack_text_at text_at value by_head
  text-is u (k, g) =
      let (e, p) = str-told s i t r h u g in
      let v : text s (head_at s i).end (head_at s i).n ≡ Some (i + length t) =
      rw e at (value-is 0 s i t r h (inr (inr (inr (inr (inr (u, k, g))))))) in
      rw (e, v, p)

  pub scalar_is : (v : Scalar) → MeansScalar v t → pack_scalar_at s (head_at s i) ≡ Gives v (i + length t)
  unfolding pack_scalar_at form_of forms
  scalar_is Null g = rw (alone-is s i t r h 0xc0 nil 0 0 refl (λ z. omega arith) refl g)
  scalar_is (Flag false) g = rw (alone-is s i t r h 0xc2 off 0 0 refl (λ z. omega arith) refl g)
  scalar_is (Flag true) g = rw (alone-is s i t r h 0xc3 on 0 0 refl (λ z. omega arith) refl g)
  scalar_is (Whole n) g = rw (whole-head n g)
  scalar_is (Below n) g = rw (below-head n g)
  scalar_is (Text u) g =
      let e = (str-told s i t r h u g.1).0 in
      let z : pack_scalar_at s (head_at s i) ≡ made Text (pack_text_at s (head_at s i)) = rw e in
      z ∙ ap (made Text) (text-is u g)

-- ---- what is read is what stands, where each byte is below 256
abbrev pub IsByte : ℕ → Type 0
IsByte b = b < 256

number_small : (w n : ℕ) (t : List ℕ) → Number w n t → All IsByte t → n < 256 ^ w
number_small zero n t (e, q) g = omega arith
number_small (suc w) n t (high, low, e, (a, c, et, k, ec)) g =
    let p : All IsByte (a ++ (low ∷ [])) = subst (All IsByte) (et ∙ ap (λ (x : List ℕ). a ++ x) ec) g in
    let l : high < 256 ^ w = number_small w high a k (all-front IsByte a (low ∷ []) p) in
    let b : low < 256 = (all_back IsByte a (low ∷ []) p).0 in
    rw pow-suc (omega arith)

number_in : (w : ℕ) (u : List ℕ) → length u ≡ w → (n : ℕ) × Number w n u
number_in w u e =
    (number u 0 w, subst (Number w (number u 0 w)) (take_all w u (omega arith)) (number-found u 0 w (omega arith)))

module _ (t : List ℕ) (small : All IsByte t) where
  -- a value that the text means
  abbrev SomeScalar : Type 0
  SomeScalar = (v : Scalar) × MeansScalar v t

  uint-some : (b w : ℕ) → ((n : ℕ) → (Code b · Number w n) t → IsWhole n t) → (Code b · Any w) t → SomeScalar
  uint-some b w f (a, u, e, ea, l) = let (n, g) = number_in w u l in (Whole n, f n (a, u, e, ea, g))

  sign-some : (b w f : ℕ) → 256 ^ w ≡ 2 * f → ((n : ℕ) → Signed b w f n t → IsWhole n t) → ((n : ℕ) → Minus b w f n t → IsBelow n t) → (Code b · Any w) t → SomeScalar
  sign-some b w f p up down (a, u, e, ea, l) =
      let (n, g) = number_in w u l in
      let c : (Code b · Number w n) t = (a, u, e, ea, g) in
      let m : n < 256 ^ w = number_small w n u g (all_back IsByte a u (subst (All IsByte) e small)) in
      elim (dec_lt n f) [
        | yes k ↦ (Whole n, up n (k, c))
        | no k ↦ (Below (256 ^ w - 1 - n), down (256 ^ w - 1 - n) (n, omega arith, omega arith, c))
      ]

  integer-some : Integer t → SomeScalar
  integer-some (inl (b, l, e)) = (Whole b, let z : b ≡ 0 + b = omega arith in inl (l, e ∙ ap (λ (x : ℕ). x ∷ []) z))
  integer-some (inr (inl (b, l, e))) =
      let m : b < 256 = (subst (All IsByte) e small).0 in
      (Below (255 - b), inl (b, omega arith, omega arith, e))
  integer-some (inr (inr (inl g))) = uint-some 0xcc 1 (λ n c. inr (inl c)) g
  integer-some (inr (inr (inr (inl g)))) = uint-some 0xcd 2 (λ n c. inr (inr (inl c))) g
  integer-some (inr (inr (inr (inr (inl g))))) = uint-some 0xce 4 (λ n c. inr (inr (inr (inl c)))) g
  integer-some (inr (inr (inr (inr (inr (inl g)))))) = uint-some 0xcf 8 (λ n c. inr (inr (inr (inr (inl c))))) g
  integer-some (inr (inr (inr (inr (inr (inr (inl g))))))) =
      sign-some 0xd0 1 0x80 refl (λ n c. inr (inr (inr (inr (inr (inl c)))))) (λ n c. inr (inl c)) g
  integer-some (inr (inr (inr (inr (inr (inr (inr (inl g)))))))) =
      sign-some 0xd1 2 0x8000 refl (λ n c. inr (inr (inr (inr (inr (inr (inl c))))))) (λ n c. inr (inr (inl c))) g
  integer-some (inr (inr (inr (inr (inr (inr (inr (inr (inl g))))))))) =
      sign-some 0xd2 4 0x80000000 refl (λ n c. inr (inr (inr (inr (inr (inr (inr (inl c)))))))) (λ n c. inr (inr (inr (inl c)))) g
  integer-some (inr (inr (inr (inr (inr (inr (inr (inr (inr g))))))))) =
      sign-some 0xd3 8 0x8000000000000000 refl (λ n c. inr (inr (inr (inr (inr (inr (inr (inr c)))))))) (λ n c. inr (inr (inr (inr c)))) g

-- a scalar that was read ends where the reader of messages ends it
text-to : (s : List ℕ) (h : Head) (u : List ℕ) (e : ℕ) → Told s h u e → text s h.end h.n ≡ Some e
unfolding text bytes
text-to s h u e g =
    let n = g.ends in
    let l = g.inside in
    let f : well_formed (part h.end (h.end + h.n) s) ≡ true = rw (← n, ← g.is) g.utf8 in
    rw (f, le-leb (h.end + h.n) (length s) (omega arith), n)

scalar-to : (s : List ℕ) (i : ℕ) (v : Scalar) (e : ℕ) → pack_scalar_at s (head_at s i) ≡ Gives v e → value 0 s i ≡ Some e
unfolding value by_head
scalar-to s i v e g =
    pack-scalar s (head_at s i) (λ v e. value 0 s i ≡ Some e) v e g (λ k. rw k)
    (λ b. ⊎_elim (λ k. rw k) (λ k. rw k)) (λ k. rw k) (λ k. rw k) (λ u w. rw w.kind (text-to s (head_at s i) u e w))

pub scalar-kind : (s : List ℕ) (h : Head) (v : Scalar) (e : ℕ) → pack_scalar_at s h ≡ Gives v e → h.kind ≤ str
scalar-kind s h v e g =
    pack-scalar s h (λ v e. h.kind ≤ str) v e g (λ k. omega arith)
    (λ b. ⊎_elim (λ k. omega arith) (λ k. omega arith)) (λ k. omega arith) (λ k. omega arith) (λ u w. let k = w.kind in omega arith)

pub text-found : (s : List ℕ) (i : ℕ) (u : List ℕ) (e : ℕ) → Told s (head_at s i) u e → Reads (IsText u) s i e
unfolding value by_head
text-found s i u e w =
    let t = text-to s (head_at s i) u e w in
    let x = value_found 0 s i e (rw w.kind t) in
    reads-with x (
      (utf8-table u).0 w.utf8,
      subst (λ (y : List ℕ). Str y x.text) (sym w.is) (str-read s i x.text x.rest x.stands e x.ends w.kind t),
    )

module _ (s : List ℕ) (small : All IsByte s) (i : ℕ) (v : Scalar) (e : ℕ) (q : pack_scalar_at s (head_at s i) ≡ Gives v e) where
  opaque-not : {A : Type 0} (n d : ℕ) → head_at s i ≡ head opaque n d → A
  unfolding pack_scalar_at pack_text_at
  opaque-not n d h = gives-not q (rw h)

  module _ (t r : List ℕ) (h : drop i s ≡ t ++ r) where
    there : All IsByte t
    there = all-front IsByte t r (subst (All IsByte) h (all_back IsByte (take i s) (drop i s) (rw (take-append-drop i s) small)))

    same-scalar : SomeScalar t there → MeansScalar v t
    same-scalar (u, g) = subst (λ (w : Scalar). MeansScalar w t) (same-value (scalar_is s i t r h u g) q) g

    means-scalar : IsScalar t → MeansScalar v t
    unfolding form_of forms
    means-scalar (inl (inl g)) = same-scalar (Null, g)
    means-scalar (inl (inr (inl g))) = same-scalar (Flag false, g)
    means-scalar (inl (inr (inr g))) = same-scalar (Flag true, g)
    means-scalar (inr (inl g)) = same-scalar (integer-some t there g)
    means-scalar (inr (inr (inl (inl (a, u, k, g, l))))) =
        opaque-not 4 _ (alone-is s i a (u ++ r) (stands_parts s i t a u r k h) 0xca opaque 4 4 refl (λ z. omega arith) refl g)
    means-scalar (inr (inr (inl (inr (a, u, k, g, l))))) =
        opaque-not 8 _ (alone-is s i a (u ++ r) (stands_parts s i t a u r k h) 0xcb opaque 8 8 refl (λ z. omega arith) refl g)
    means-scalar (inr (inr (inr (inl (n, (a, u, k, g, l)))))) = opaque-not n _ (bin-head-is s i a (u ++ r) (stands_parts s i t a u r k h) n g)
    means-scalar (inr (inr (inr (inr (inl (n, (a, u, k, g, l))))))) =
        opaque-not (1 + n) _ (ext-head-is s i a (u ++ r) (stands_parts s i t a u r k h) n g)
    means-scalar (inr (inr (inr (inr (inr (u, k, g)))))) = same-scalar (Text u, (k, g))

  pub scalar-found : Reads (MeansScalar v) s i e
  scalar-found =
      let x = value_found 0 s i e (scalar-to s i v e q) in
      reads-with x (means-scalar x.text x.rest x.stands x.good)
