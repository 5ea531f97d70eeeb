-- What the proofs of writing use of JSON. Assumes nothing.
use Prim.Native.Nat.{ℕ, zero, suc, ◌+◌, ◌-◌, ◌*◌, ◌≤◌, ◌<◌}
use Prim.Native.Char.{Char, code}
use mathlib.Core.Bool.{true, false}
use mathlib.Core.List.{List, [], ◌∷◌, ◌++◌, map, map-id, append_assoc, append-nil}
use mathlib.Core.Logic.{inl, inr}
use mathlib.Core.Path.{◌≡◌, refl, sym, ap, subst, ◌∙◌}
use native.Mathlib.Omega.{arith}
use lib.ListN.{length, length-append}
use lib.Seq.{take_at}
use Rattle.seq.specs.declared.Format.TheVariants.{Json}
use Rattle.seq.specs.Lists.{All, In, joined}
use Rattle.seq.proofs.Digits.{decimal-id}
use Rattle.seq.proofs.Rules.{all_map, all-image, all_in, map-map}
use Rattle.utf8.specs.Table.{Encoded}
use Rattle.utf8.proofs.Table.{utf8-table}
use Rattle.strings.specs.Strings.{undone, has_lone, inner, meant}
use Rattle.lex.specs.Grammar.{◌·◌, Ws, String}
use Rattle.lex.proofs.Stands.{reads_all}
use Rattle.json_text.specs.Grammar.{Rest, Enclosed, Array, Member, IsMember, Object, Scalar, Value}
use Rattle.json_text.proofs.Grammar.{value_found, value-quote}
use Rattle.members.specs.Members.{member_in}
use Rattle.members.proofs.Grammar.{member-none}
use Rattle.values.specs.Value as Values
use Rattle.values.specs.Value.{GoodText, GoodScalar, GoodMember, Differ}
use Rattle.values.specs.Value.Scalar.{Null, Flag, Whole, Below, Text}
use Rattle.values.specs.Write.{spelled, quoted_text, json_scalar, commaed, separated, json_member, json_layer, write}
use Rattle.values.proofs.Both.{written_over}
use Rattle.values.proofs.Strings.{undone-spelled, lone-spelled}
use Rattle.incoming.specs.Shapes.{Sound, Says, OptionsOf, Has}
use Rattle.spoken.specs.Parts.{list, dict}
use Rattle.spoken.proofs.Utf8.{encoded-append, ascii-encoded, decimal-encoded, quoted-encoded, list-encoded, dict-encoded}
use Rattle.spoken.proofs.Among.{in_image, images-apart}
use Rattle.spoken.proofs.Laws.{Inner, Fit, Without, Laws}

-- ---- values that are no list and no dict
scalar-written : (v : Values.Scalar) → GoodScalar v → Scalar (json_scalar v)
unfolding write
scalar-written v g = reads_all (value_found 0 (json_scalar v) 0 (length (json_scalar v)) (written_over Json 0 v g))

scalar : (d : ℕ) (v : Values.Scalar) → GoodScalar v → Value d (json_scalar v)
scalar zero v g = scalar-written v g
scalar (suc d) v g = inl (scalar-written v g)

ascii : (t : List ℕ) → All (λ b. b < 0x80) t → Encoded t
ascii = ascii-encoded

scalar-formed : (v : Values.Scalar) → GoodScalar v → Encoded (json_scalar v)
unfolding json_scalar
scalar-formed Null g = ascii _ (omega arith, (omega arith, (omega arith, (omega arith, tt))))
scalar-formed (Flag true) g = ascii _ (omega arith, (omega arith, (omega arith, (omega arith, tt))))
scalar-formed (Flag false) g = ascii _ (omega arith, (omega arith, (omega arith, (omega arith, (omega arith, tt)))))
scalar-formed (Whole n) g = decimal-encoded n
scalar-formed (Below n) g = encoded-append (45 ∷ []) _ (ascii (45 ∷ []) (omega arith, tt)) (decimal-encoded (n + 1))
scalar-formed (Text t) g = quoted-encoded t ((utf8-table t).0 g.utf8)

-- ---- strings
quoted-inner : (t : List ℕ) → inner (quoted_text t) ≡ joined spelled t
unfolding quoted_text
quoted-inner t =
    take_at (joined spelled t) (34 ∷ []) (length (34 ∷ (joined spelled t ++ (34 ∷ []))) - 1 - 1) (simp length-append (omega arith))

key-sound : (t : List ℕ) → Sound Json (quoted_text t)
key-sound t = ap has_lone (quoted-inner t) ∙ lone-spelled t

key-is : (t : List ℕ) → meant (quoted_text t) ≡ t
key-is t = ap undone (quoted-inner t) ∙ undone-spelled t

quoted-string : (t : List ℕ) → GoodText t → String (quoted_text t)
unfolding json_scalar quoted_text
quoted-string t g = value-quote 0 (quoted_text t) (scalar-written (Text t) g) refl

string : (t : List ℕ) → GoodText t → Says Json t (json_scalar (Text t))
unfolding json_scalar
string t g = (quoted-string t g, key-sound t, key-is t)

-- ---- lists and dicts
no-space : Ws []
no-space = ([], tt, refl)

-- the items behind the first, each behind a comma, and the closing byte
module _ {A : Type 0} (f : A → List ℕ) where
  rest-is : (c : Char) (xs : List A) → Rest c (map f xs) (commaed f xs ++ (code c ∷ []))
  unfolding commaed
  rest-is c [] = ([], code c ∷ [], refl, no-space, refl)
  rest-is c (x ∷ xs) =
      let all : List ℕ = (f x ++ commaed f xs) ++ (code c ∷ []) in (
        [],
        44 ∷ all,
        refl,
        no-space,
        (
          44 ∷ [],
          all,
          refl,
          refl,
          ([], all, refl, no-space, (f x, commaed f xs ++ (code c ∷ []), append_assoc (f x) (commaed f xs) (code c ∷ []), refl, rest-is c xs)),
        ),
      )

  enclosed-is : (b c : Char) (xs : List A) → Enclosed b c (map f xs) (code b ∷ separated f xs ++ (code c ∷ []))
  unfolding separated
  enclosed-is b c [] = (code b ∷ [], code c ∷ [], refl, refl, ([], code c ∷ [], refl, no-space, refl))
  enclosed-is b c (x ∷ xs) =
      let all : List ℕ = (f x ++ commaed f xs) ++ (code c ∷ []) in (
        code b ∷ [],
        all,
        refl,
        refl,
        ([], all, refl, no-space, (f x, commaed f xs ++ (code c ∷ []), append_assoc (f x) _ (code c ∷ []), refl, rest-is c xs)),
      )

array-is : (es : List (List ℕ)) → Array es (list Json es)
unfolding json_layer
array-is es = subst (λ (ts : List (List ℕ)). Array ts (list Json es)) (map-id es) (enclosed-is (λ (t : List ℕ). t) "[" "]" es)

listed : (es : List (List ℕ)) → (Ws · Array es · Ws) (list Json es)
listed es = ([], list Json es, refl, no-space, (list Json es, [], sym (append-nil (list Json es)), array-is es, no-space))

commaed-short : (es : List (List ℕ)) → All (λ e. length e ≤ 16) es → length (commaed (λ (t : List ℕ). t) es) ≤ 17 * length es
unfolding commaed
commaed-short [] a = omega arith
commaed-short (e ∷ es) (l, a) = let k = commaed-short es a in simp length-append (omega (arith, k, l))

list-short : (es : List (List ℕ)) → All (λ e. length e ≤ 16) es → length (list Json es) ≤ 5 + 17 * length es
unfolding json_layer separated
list-short [] a = omega arith
list-short (e ∷ es) (l, a) = let k = commaed-short es a in simp length-append (omega (arith, k, l))

-- the member that is written
abbrev written : Values.Member (List ℕ) → Member
written m = record { key = quoted_text m.key; value = m.value; text = quoted_text m.key ++ 58 ∷ m.value }

member_is : (m : Values.Member (List ℕ)) → GoodMember (Inner Json) m → IsMember (Value 6) (written m)
member_is m g =
    let key = quoted_text m.key in
    let v = m.value in (
      quoted-string m.key g.key,
      g.value.0,
      (key, 58 ∷ v, refl, refl, ([], 58 ∷ v, refl, no-space, (58 ∷ [], v, refl, refl, ([], v, refl, no-space, refl)))),
    )

module _ (ms : List (Values.Member (List ℕ))) (g : Fit Json ms) where
  object-is : Object (Value 6) (map written ms) (dict Json ms)
  unfolding json_layer json_member
  object-is = record {
    each = all-image (GoodMember (Inner Json)) (IsMember (Value 6)) written member_is ms g.each;
    apart =
        images-apart Differ (GoodMember (Inner Json)) _ written (λ m n p q d e. d (sym (key-is m.key) ∙ e ∙ key-is n.key)) ms g.each
        g.apart;
    whole =
        subst (λ (ts : List (List ℕ)). Enclosed "{" "}" ts (dict Json ms)) (sym (map-map written (λ m. m.text) ms))
        (enclosed-is (json_member (λ (t : List ℕ). t)) "{" "}" ms);
  }

  options-of : OptionsOf (map written ms) (dict Json ms)
  options-of = (object-is, all-image (GoodMember (Inner Json)) (λ m. Sound Json m.key) written (λ m h. key-sound m.key) ms g.each)

  has : (m : Values.Member (List ℕ)) → In m ms → Has Json m.key m.value (dict Json ms)
  has m i = (map written ms, options-of, written m, in_image written ms m i, key-is m.key, refl)

  absent : (key : List ℕ) → Without key ms → (limit : ℕ) → length (dict Json ms) ≤ limit → member_in limit key (dict Json ms) ≡ []
  absent key a limit l =
      member-none limit (dict Json ms) (map written ms) l object-is key
      (λ m i. all_in (λ m. ¬ (meant m.key ≡ key)) (map written ms) m
      (all-image (λ m. ¬ (key ≡ m.key)) (λ m. ¬ (meant m.key ≡ key)) written (λ m d e. d (sym e ∙ key-is m.key)) ms a) i)

-- ---- UTF-8
list-formed : (es : List (List ℕ)) → All Encoded es → Encoded (list Json es)
unfolding json_layer
list-formed es a = list-encoded (λ (t : List ℕ). t) es a

dict-formed : (ms : List (Values.Member (List ℕ))) → Fit Json ms → Encoded (dict Json ms)
unfolding json_layer
dict-formed ms g =
    dict-encoded (λ (t : List ℕ). t) ms
    (all_map (GoodMember (Inner Json)) (GoodMember Encoded) (λ m h. record { key = h.key; value = h.value.1 }) ms g.each)

pub json-laws : Laws Json
unfolding json_scalar json_layer
json-laws = record {
  scalar = scalar;
  scalar-formed = scalar-formed;
  number = λ n (l, m). (l, m, refl);
  string = string;
  number_short = λ n (l, m). decimal-id n m;
  listed = λ es h. listed es;
  list-value = λ d es h a. inr (inr (es, a, array-is es));
  list-formed = list-formed;
  list-some = λ es. omega arith;
  list-short = list-short;
  list-part = λ t g. inr (inr g);
  options = λ ms g. (map written ms, options-of ms g);
  has = has;
  absent = absent;
  dict-formed = dict-formed;
  dict-part = λ t g. inr (inl g);
}
