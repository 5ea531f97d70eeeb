-- What an answer of `stands` tells of JSON's tokens. Assumes nothing.
use Rattle.std.specs.Prelude.{Some}
use Prim.Native.Nat.{ℕ, ◌+◌, ◌-◌, ◌^◌, ◌≤◌, ◌<◌}
use mathlib.Core.Bool.{true, false, ◌||◌}
use mathlib.Core.List.{List, [], ◌∷◌, ◌++◌, append_assoc}
use mathlib.Core.Path.{◌≡◌, refl, sym, ap, ◌∙◌}
use native.Mathlib.Omega.{arith}
use borrow.Author.Tests.{eqb-true, eqb-false, leb-true, ltb-true}
use lib.Dec.{eqb, leb, ltb}
use lib.ListN.{length, take, drop, length-append}
use lib.Seq.{take_at}
use Rattle.seq.specs.Bytes.{is, is_digit, chars, byte_at, part}
use Rattle.seq.proofs.Logic.{split, or-false}
use Rattle.lex.specs.Lex.{integer, fraction, exponent, quoted, colon}
use Rattle.lex.specs.Grammar.{◌∪◌, Many, Unescaped, Escaped, String}
use Rattle.lex.proofs.Stands.{Reads, stands-next}
use Rattle.lex.proofs.Strings.{quoted-found}
use Rattle.strings.specs.Strings.{undone, has_lone}
use Rattle.json_text.specs.Json.{literal}
use Rattle.elements.specs.Kinds.{decimal as natural}
use Rattle.values.specs.Value.{Scalar, Layer, Member}
use Rattle.values.specs.Value.Scalar.{Null, Flag, Whole, Below, Text}
use Rattle.values.specs.Value.Layer.{Plain, Items, Members}
use Rattle.values.specs.Read.{Read, made, past}
use Rattle.values.specs.Read.Read.{Gives}
use Rattle.values.specs.Stands.{member, quoted_at, whole_at, json_whole_at, json_below_at, json_scalar_at, json_layer_at, json_member_at, enclosed}
use Rattle.values.proofs.Given.{same-value, same_place, gives-not, then-gives, made-gives, past-gives, picked, passed}

-- the text that stands between the quotes from a place up to e
pub record Quoted (s : List ℕ) (at : ℕ) (t : List ℕ) (e : ℕ) : Type 0 where
  pub ends : quoted s at ≡ Some e
  pub lone : has_lone (part (at + 1) (e - 1) s) ≡ false
  pub is : t ≡ undone (part (at + 1) (e - 1) s)

-- the bytes b stand between the quotes
pub record Inside (s : List ℕ) (at e : ℕ) : Type 0 where
  pub bytes : List ℕ
  pub rest : List ℕ
  pub stands : drop at s ≡ 34 ∷ (bytes ++ (34 ∷ rest))
  pub good : Many (Unescaped ∪ Escaped) bytes
  pub ends : e ≡ at + 2 + length bytes
  pub is : part (at + 1) (e - 1) s ≡ bytes

pub quoted-inside : (s : List ℕ) (at e : ℕ) → quoted s at ≡ Some e → Inside s at e
quoted-inside s at e h = go (quoted-found s at e h)
  where
    go : Reads String s at e → Inside s at e
    go x =
        let (a, r, e₁, ha, (b, c, e₂, hb, hc)) = x.good in
        let w : x.text ≡ 34 ∷ (b ++ (34 ∷ [])) = e₁ ∙ rw (ha, e₂, hc) in
        let st : drop at s ≡ 34 ∷ (b ++ (34 ∷ x.rest)) = x.stands ∙ rw (w, append_assoc b (34 ∷ []) x.rest) in
        let l = ap length w in
        let n = length-append b (34 ∷ []) in
        let p = x.ends in
        let q : drop (at + 1) s ≡ b ++ (34 ∷ x.rest) = stands-next s at (34 ∷ []) (b ++ (34 ∷ x.rest)) st in
        record {
          bytes = b;
          rest = x.rest;
          stands = st;
          good = hb;
          ends = omega arith;
          is = ap (λ (u : List ℕ). take (e - 1 - (at + 1)) u) q ∙ take_at b (34 ∷ x.rest) (e - 1 - (at + 1)) (omega arith);
        }

-- digits that neither frac nor exp follows
pub record Digits (s : List ℕ) (at n e : ℕ) : Type 0 where
  pub ends : integer s at ≡ Some e
  pub fraction : fraction s e ≡ Some e
  pub exponent : exponent s e ≡ Some e
  pub is : n ≡ natural 0 (part at e s)

module _ (s : List ℕ) (at : ℕ) where
  pub whole-gives : (n e : ℕ) → whole_at s at ≡ Gives n e → Digits s at n e
  unfolding whole_at fraction exponent
  whole-gives n e g =
      let (m, q, r) = past-gives (integer s at) _ n e g in
      let (l, p) = passed (is "." (byte_at s m) || (is "e" (byte_at s m) || is "E" (byte_at s m))) _ n e r in
      let d : m ≡ e = same_place refl p in
      let (a, b) = or-false (is "." (byte_at s e)) (is "e" (byte_at s e) || is "E" (byte_at s e)) (rw d at l) in
      record {
        ends = q ∙ ap Some d;
        fraction = rw a;
        exponent = rw b;
        is = sym (same-value refl p) ∙ ap (λ (i : ℕ). natural 0 (part at i s)) d;
      }

  module _ (P : Scalar → Type 0) (v : Scalar) (e : ℕ) where
    pub positive : json_whole_at s at ≡ Gives v e → ((n : ℕ) → Digits s at n e → n < 2 ^ 64 → P (Whole n)) → P v
    unfolding json_whole_at
    positive g f =
        let (n, m, p, q) = then-gives (whole_at s at) _ v e g in
        let (l, r) = picked (ltb n (2 ^ 64)) _ v e q in
        let d : m ≡ e = same_place refl r in
        rw (sym (same-value refl r)) (f n (whole-gives n e (p ∙ ap (λ (i : ℕ). Gives n i) d)) (ltb-true n (2 ^ 64) l))

    pub negative : json_below_at s at ≡ Gives v e → ((n : ℕ) → Digits s at n e → P (Whole 0))
        → ((n : ℕ) → Digits s at n e → 0 < n → n ≤ 2 ^ 63 → P (Below (n - 1))) → P v
    unfolding json_below_at
    negative g on_zero on_below =
        let (n, m, p, q) = then-gives (whole_at s at) _ v e g in
        let told : m ≡ e → Digits s at n e = λ d. whole-gives n e (p ∙ ap (λ (i : ℕ). Gives n i) d) in
        split (eqb n 0)
        (λ z. let r = rw z at q in rw (sym (same-value refl r)) (on_zero n (told (same_place refl r))))
        (λ z.
        let (l, r) = picked (leb n (2 ^ 63)) _ v e (rw z at q) in
        let k = eqb-false n 0 z in
        rw (sym (same-value refl r)) (on_below n (told (same_place refl r)) (omega arith) (leb-true n (2 ^ 63) l)))

module _ (s : List ℕ) (at : ℕ) where
  pub quoted-gives : (t : List ℕ) (e : ℕ) → quoted_at s at ≡ Gives t e → Quoted s at t e
  unfolding quoted_at
  quoted-gives t e g =
      let (m, q, r) = past-gives (quoted s at) _ t e g in
      let (l, p) = passed (has_lone (part (at + 1) (m - 1) s)) _ t e r in
      let d : m ≡ e = same_place refl p in
      record {
        ends = q ∙ ap Some d;
        lone = ap (λ (i : ℕ). has_lone (part (at + 1) (i - 1) s)) (sym d) ∙ l;
        is = sym (same-value refl p) ∙ ap (λ (i : ℕ). undone (part (at + 1) (i - 1) s)) d;
      }

  module _ (P : Scalar → ℕ → Type 0) (v : Scalar) (e : ℕ) where
    spoken : (w : List ℕ) (u : Scalar) → past (literal w s at) (λ i. Gives u i) ≡ Gives v e → (literal w s at ≡ Some e → P u e) → P v e
    spoken w u g f =
        let (m, q, r) = past-gives (literal w s at) (λ i. Gives u i) v e g in
        rw (sym (same-value refl r)) (f (q ∙ ap Some (same_place refl r)))

    pub json-scalar : json_scalar_at s at ≡ Gives v e
        → ((t : List ℕ) → byte_at s at ≡ 34 → Quoted s at t e → P (Text t) e)
        → (byte_at s at ≡ 45 → json_below_at s (at + 1) ≡ Gives v e → P v e)
        → (is_digit (byte_at s at) ≡ true → json_whole_at s at ≡ Gives v e → P v e)
        → (byte_at s at ≡ 116 → literal (chars "true") s at ≡ Some e → P (Flag true) e)
        → (byte_at s at ≡ 102 → literal (chars "false") s at ≡ Some e → P (Flag false) e)
        → (byte_at s at ≡ 110 → literal (chars "null") s at ≡ Some e → P Null e) → P v e
    unfolding json_scalar_at
    json-scalar g on_text on_below on_whole on_true on_false on_null =
        split (is "\"" (byte_at s at))
        (λ a. let (t, p, q) = made-gives Text (quoted_at s at) v e (rw a at g) in rw q (on_text t (eqb-true _ _ a) (quoted-gives t e p)))
        (λ a. split (is "-" (byte_at s at)) (λ b. on_below (eqb-true _ _ b) (rw (a, b) at g))
        (λ b. split (is_digit (byte_at s at)) (λ c. on_whole c (rw (a, b, c) at g))
        (λ c. split (is "t" (byte_at s at)) (λ d. spoken (chars "true") (Flag true) (rw (a, b, c, d) at g) (on_true (eqb-true _ _ d)))
        (λ d. split (is "f" (byte_at s at)) (λ x. spoken (chars "false") (Flag false) (rw (a, b, c, d, x) at g) (on_false (eqb-true _ _ x)))
        (λ x. split (is "n" (byte_at s at)) (λ y. spoken (chars "null") Null (rw (a, b, c, d, x, y) at g) (on_null (eqb-true _ _ y)))
        (λ y. gives-not (rw (a, b, c, d, x, y) at g) refl))))))

  pub json-layer : {A : Type 0} (item : ℕ → Read A) (P : Layer A → ℕ → Type 0) (v : Layer A) (e : ℕ) → json_layer_at item s at ≡ Gives v e
      → ((vs : List A) → byte_at s at ≡ 91 → enclosed item 93 s (at + 1) ≡ Gives vs e → P (Items vs) e)
      → ((ms : List (Member A)) → byte_at s at ≡ 123 → enclosed (json_member_at item s) 125 s (at + 1) ≡ Gives ms e → P (Members ms) e)
      → ((u : Scalar) → ¬ (byte_at s at ≡ 91) → ¬ (byte_at s at ≡ 123) → json_scalar_at s at ≡ Gives u e → P (Plain u) e) → P v e
  unfolding json_layer_at
  json-layer item P v e g on_items on_members on_plain =
      split (is "[" (byte_at s at))
      (λ a. let (vs, p, q) = made-gives Items (enclosed item 93 s (at + 1)) v e (rw a at g) in rw q (on_items vs (eqb-true _ _ a) p))
      (λ a. split (is "{" (byte_at s at))
      (λ b. let (ms, p, q) = made-gives Members (enclosed (json_member_at item s) 125 s (at + 1)) v e (rw (a, b) at g) in rw q (on_members ms (eqb-true _ _ b) p))
      (λ b. let (u, p, q) = made-gives Plain (json_scalar_at s at) v e (rw (a, b) at g) in rw q (on_plain u (eqb-false _ _ a) (eqb-false _ _ b) p)))

-- a member's key, and the value behind the colon
pub json-member : {A : Type 0} (item : ℕ → Read A) (s : List ℕ) (at : ℕ) (m : Member A) (e : ℕ) → json_member_at item s at ≡ Gives m e
    → (j a : ℕ) × Quoted s at m.key j × (colon s j ≡ Some a) × (item a ≡ Gives m.value e)
unfolding json_member_at
json-member item s at m e g =
    let (k, j, p, q) = then-gives (quoted_at s at) (λ k e. past (colon s e) λ a. made (member k) (item a)) m e g in
    let (a, c, q₂) = past-gives (colon s j) (λ a. made (member k) (item a)) m e q in
    let (v, r, w) = made-gives (member k) (item a) m e q₂ in
    rw w (j, a, quoted-gives s at k j p, c, r)
