-- What the proofs of reading use of JSON. Assumes nothing.
use Prim.Native.Nat.{ℕ, suc, ◌+◌, ◌*◌, ◌≤◌, ◌<◌}
use Prim.Native.Char.{Char, code}
use mathlib.Core.Bool.{true, false, not}
use mathlib.Core.List.{List, [], ◌∷◌, ◌++◌, map, append-nil}
use mathlib.Core.Logic.{◌⊎◌, inl, inr, ⊎_elim}
use mathlib.Core.Path.{◌≡◌, refl, sym, ap, subst, ◌∙◌}
use native.Mathlib.Omega.{arith}
use borrow.Author.Tests.{eqb-true, eqb-false}
use lib.Dec.{eqb}
use lib.ListN.{length, drop}
use Rattle.seq.specs.declared.Format.TheVariants.{Json}
use Rattle.seq.specs.declared.Span.{Span}
use Rattle.seq.specs.Lists.{every, In}
use Rattle.seq.specs.Bytes.{is, is_digit, byte_at, text_of, same}
use Rattle.seq.proofs.Rules.{all_in}
use Rattle.seq.proofs.Logic.{split, clash, not_is}
use Rattle.seq.proofs.Bytes.{same-eq, same_refl}
use Rattle.utf8.proofs.Table.{utf8-table}
use Rattle.strings.specs.Strings.{has_lone, inner, meant}
use Rattle.lex.specs.Grammar.{String}
use Rattle.lex.proofs.Tokens.{string-head}
use Rattle.json_text.specs.Grammar.{Enclosed, Member, IsMember, Value}
use Rattle.json_text.proofs.Items.{stands-inner}
use Rattle.json_text.proofs.Grammar.{value-head, value-quote, value-brace, value-bracket}
use Rattle.elements.specs.Kinds.{decimal, id_from, id_of, kind}
use Rattle.elements.specs.Elements.{kinds_from, listed, at}
use Rattle.elements.proofs.IdLaws.{kind-id, kind-string, kind-list, kind-dict}
use Rattle.elements.proofs.Numbers.{numbers, id-is}
use Rattle.elements.proofs.Grammar.{listed_found, listed-is, listed-stands}
use Rattle.arrays.proofs.Grammar.{Tells, tells}
use Rattle.members.specs.Members.{value_in, sound_in}
use Rattle.members.proofs.Grammar.{option_is, option-none, keys-sound}
use Rattle.incoming.specs.Read.{within, inside, shape_from}
use Rattle.incoming.specs.Shapes.{IdText, Dict, IsList, Options, Has}
use Rattle.incoming.proofs.Digits.{Digit, kind-digit}
use Rattle.incoming.proofs.Places.{part-short}
use Rattle.incoming.proofs.Laws.{Laws}

-- ---- kinds
-- a text's first byte, or its ID, by its kind
kind-tells : (t : List ℕ) → Tells (eqb (byte_at t 0) 34) (eqb (byte_at t 0) 91) (eqb (byte_at t 0) 123) (eqb (id_of t) 0) (kind t)
unfolding kind
kind-tells t = tells (eqb (byte_at t 0) 34) (eqb (byte_at t 0) 91) (eqb (byte_at t 0) 123) (eqb (id_of t) 0)

no-id : (t : List ℕ) → is_digit (byte_at t 0) ≡ false → id_of t ≡ 0
unfolding id_of id_from every decimal
no-id [] h = refl
no-id (b ∷ t) h = split (is "0" b) (λ z. rw z) (λ z. rw (z, h))

id-kind : (t : List ℕ) → (id_of t ≡ 0 → ⊥) → kind t ≡ 1
id-kind t n =
    kind-id t (byte_at t 0) refl (λ e. n (no-id t (rw e))) (λ e. n (no-id t (rw e))) (λ e. n (no-id t (rw e))) (id_of t) refl n

string-kind : (t : List ℕ) → String t → kind t ≡ 2
string-kind t g = kind-string t (byte_at t 0) refl (ap (λ l. byte_at l 0) (string-head t g).1)

opened : (c d : Char) (ts : List (List ℕ)) (t : List ℕ) → Enclosed c d ts t → byte_at t 0 ≡ code c
opened c d [] t (a, b, e, p, r) = rw (e, p)
opened c d (u ∷ ts) t (a, b, e, p, r) = rw (e, p)

dict-kind : (t : List ℕ) → Dict Json t → kind t ≡ 4
dict-kind t (ms, o) = kind-dict t (byte_at t 0) refl (opened "{" "}" (map (λ m. m.text) ms) t o.whole)

list-kind : (t : List ℕ) → IsList Json t → kind t ≡ 3
list-kind t (es, v, w) = kind-list t (byte_at t 0) refl (opened "[" "]" es t w)

-- the kinds of elements as one number
kinds-texts : (s : List ℕ) (v : ℕ) (ps : List Span) → kinds_from s v ps ≡ shape_from v (map kind (map (text_of s) ps))
unfolding kinds_from
kinds-texts s v [] = refl
kinds-texts s v (p ∷ ps) = kinds-texts s (v * 10 + kind (text_of s p)) ps

digit : (t : List ℕ) → Digit (kind t)
unfolding kind
digit t = kind-digit (eqb (byte_at t 0) 34) (eqb (byte_at t 0) 91) (eqb (byte_at t 0) 123) (eqb (id_of t) 0)

-- ---- IDs
id-found : (t : List ℕ) → kind t ≡ 1 → IdText Json (id_of t) t
id-found t e =
    let z = eqb-false (id_of t) 0 ((kind-tells t).3 e) in
    let l : 1 ≤ id_of t = omega arith in
    let (q, m) = numbers.only t (id_of t) refl l in
    (l, m, q)

id-read : (n : ℕ) (t : List ℕ) → IdText Json n t → id_of t ≡ n
id-read n t (l, m, e) = (id-is t n l m).1 e

id-of : (n : ℕ) (t : List ℕ) → IdText Json n t → kind t ≡ 1
id-of n t i = id-kind t (λ z. let e = id-read n t i in let l = i.0 in omega arith)

-- ---- strings
within-at : (s : List ℕ) (k : ℕ) → k < length (listed s) → within Json s (at k (listed s)) ≡ inside Json (text_of s (at k (listed s)))
within-at s k l =
    let p = at k (listed s) in
    let (r, st, e) = listed-stands s k l in
    stands-inner s p.from p.to (text_of s p) r st e

-- ---- options
-- a key is a member's, or no member's
abbrev Found : List ℕ → List Member → Type 0
Found key ms = ((m : Member) × In m ms × (meant m.key ≡ key)) ⊎ ((m : Member) → In m ms → ¬ (meant m.key ≡ key))

find : (key : List ℕ) (ms : List Member) → Found key ms
find key [] = inr (λ m i. absurd i)
find key (n ∷ ms) =
    split (same (meant n.key) key)
    (λ t. inl (n, inl refl, same-eq (meant n.key) key t))
    (λ t.
    ⊎_elim (λ (f : (m : Member) × In m ms × (meant m.key ≡ key)). inl (f.0, inr f.1, f.2))
    (λ none. inr (λ m i. ⊎_elim (λ e k. clash (subst (λ (x : Member). same (meant x.key) key ≡ true) e (rw k (same_refl key))) t) (none m) i))
    (find key ms))

value-some : (d : ℕ) (t : List ℕ) → Value d t → ¬ (t ≡ [])
value-some d t v z =
    let h = value-head d t v in
    let q : ◌≡◌ {A = ℕ} (suc (length h.1)) 0 = ap length (sym h.2 ∙ z) in
    omega arith

has_value : (key v t : List ℕ) → Has Json key v t → Value 6 v
has_value key v t (ms, o, m, i, k, q) = subst (Value 6) q (all_in (IsMember (Value 6)) ms m o.0.each i).1

-- a text that is a dict
module _ (t : List ℕ) (l : length t ≤ 2048) where
  whole : drop 0 t ≡ t ++ []
  whole = sym (append-nil t)

  options-found : Dict Json t → sound_in t ≡ true → Options Json t
  unfolding sound_in
  options-found (ms, o) q = (ms, (o, (keys-sound t 0 t [] ms l whole o).0 q))

  options-are : Options Json t → sound_in t ≡ true
  unfolding sound_in
  options-are (ms, (o, a)) = (keys-sound t 0 t [] ms l whole o).1 a

  has-is : (key v : List ℕ) → Has Json key v t → value_in key t ≡ v
  unfolding value_in
  has-is key v (ms, o, m, i, k, q) = option_is t 0 t [] ms l whole o.0 key m i k ∙ q

  has-found : (key : List ℕ) → Options Json t → Has Json key (value_in key t) t ⊎ (value_in key t ≡ [])
  unfolding value_in
  has-found key (ms, o) =
      ⊎_elim
      (λ (f : (m : Member) × In m ms × (meant m.key ≡ key)).
      inl (ms, o, f.0, f.1, f.2, sym (option_is t 0 t [] ms l whole o.0 key f.0 f.1 f.2)))
      (λ none. inr (option-none t 0 t [] ms l whole o.0 key none))
      (find key ms)

pub json-laws : Laws Json
json-laws = record {
  accepted = λ es s (n, u, h). record { some = n; short = h.0; formed = (utf8-table s).1 u };
  made = λ s a n. (a.some, (utf8-table s).0 a.formed, listed_found s n);
  listed = λ es s m l. listed-is s es m.2 l;
  each = λ es s m. m.2.1;
  within-at = within-at;
  kinds = λ s ps. kinds-texts s 0 ps;
  digit = digit;
  id-found = λ s p v h. id-found (text_of s p) h;
  string-found = λ t v h. value-quote 7 t v (eqb-true (byte_at t 0) 34 ((kind-tells t).0 h));
  list-found = λ t v h. value-bracket 6 t v (eqb-true (byte_at t 0) 91 ((kind-tells t).1 h));
  dict-found = λ t v h. value-brace 6 t v (eqb-true (byte_at t 0) 123 ((kind-tells t).2 h));
  id-is = λ s p n g. id-read n (text_of s p) g;
  id-kind = id-of;
  string-kind = string-kind;
  list-kind = list-kind;
  dict-kind = dict-kind;
  string-is = λ t g. rw (string-head t g).1;
  sound-found = λ t q. not_is (has_lone (inner t)) q;
  sound-is = λ t q. ap not q;
  says-found = λ t g a. (g, a, refl);
  says-string = λ u t g. g.0;
  says-sound = λ u t g. g.1;
  says_is = λ u t g. g.2;
  options-found = λ s p l. options-found (text_of s p) (part-short s p l);
  options-are = λ s p l. options-are (text_of s p) (part-short s p l);
  options-dict = λ t (ms, o). (ms, o.0);
  has-options = λ key v t (ms, o, m, i, k, q). (ms, o);
  has_some = λ key v t h. value-some 6 v (has_value key v t h);
  has-string = λ key v t h q. value-quote 6 v (has_value key v t h) (eqb-true (byte_at v 0) 34 q);
  has-found = λ s p l. has-found (text_of s p) (part-short s p l);
  has-is = λ s p l. has-is (text_of s p) (part-short s p l);
  true-is = refl;
  true-some = λ e. let z : ◌≡◌ {A = ℕ} 4 0 = ap length e in omega arith;
}
