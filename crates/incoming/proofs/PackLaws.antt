-- What the proofs of reading use of MessagePack. Assumes nothing.
use Rattle.std.specs.Prelude.{None}
use Prim.Native.Nat.{ℕ, ◌+◌, ◌*◌, ◌≤◌}
use mathlib.Core.Bool.{◌&&◌}
use mathlib.Core.List.{List, [], ◌∷◌, map}
use mathlib.Core.Logic.{◌⊎◌, inl, inr, ⊎_elim}
use mathlib.Core.Path.{◌≡◌, refl, sym, ap, subst, ◌∙◌}
use native.Mathlib.Omega.{arith}
use borrow.Author.Tests.{eqb-true, eq-eqb}
use lib.Dec.{eqb}
use lib.ListN.{length}
use Rattle.seq.specs.declared.Format.TheVariants.{MsgPack}
use Rattle.seq.specs.declared.Span.{Span}
use Rattle.seq.specs.Lists.{All, In}
use Rattle.seq.specs.Bytes.{text_of, same}
use Rattle.seq.proofs.Rules.{all_in}
use Rattle.seq.proofs.Logic.{split, clash, and_left, and_right}
use Rattle.seq.proofs.Bytes.{bytes-are, same-eq, same_refl}
use Rattle.lex.proofs.Stands.{stands-next, to-bad}
use Rattle.msgpack.specs.declared.Head.{Head}
use Rattle.msgpack.specs.Head.{str, array, map as dict, form_of, head_of, head_at}
use Rattle.msgpack.specs.MsgPack.{by_head, value}
use Rattle.msgpack.specs.Grammar.{Str, Text, Pair, IsPair, Value}
use Rattle.msgpack.proofs.Rows.{str-head-is}
use Rattle.msgpack.proofs.Grammar.{packed-value}
use Rattle.arrays.specs.Arrays.{id_of, kind, kinds_from}
use Rattle.arrays.specs.Grammar.{Id}
use Rattle.arrays.proofs.Laws.{kind-string}
use Rattle.arrays.proofs.Grammar.{listed_found, listed-is, id-read, id-kinded, id-kind, string-is, list-is, dict-is}
use Rattle.maps.specs.Maps.{value_in}
use Rattle.maps.proofs.Grammar.{map_of, value-in, none_in}
use Rattle.incoming.specs.Read.{str_bytes, shape_from}
use Rattle.incoming.specs.Shapes.{Says, Options, Has}
use Rattle.incoming.proofs.Digits.{Digit, kind-digit}
use Rattle.incoming.proofs.Places.{part-short}
use Rattle.incoming.proofs.Laws.{Laws}

-- ---- kinds
kinds-texts : (s : List ℕ) (v : ℕ) (ps : List Span) → kinds_from s v ps ≡ shape_from v (map kind (map (text_of s) ps))
unfolding kinds_from
kinds-texts s v [] = refl
kinds-texts s v (p ∷ ps) = kinds-texts s (v * 10 + kind (text_of s p)) ps

digit : (t : List ℕ) → Digit (kind t)
unfolding kind
digit t = kind-digit (eqb (head_at t 0).kind str) (eqb (head_at t 0).kind array) (eqb (head_at t 0).kind dict) (eqb (id_of t) 0)

id-found : (t : List ℕ) → Value 7 t → kind t ≡ 1 → Id (id_of t) t
id-found t v h = let (n, g) = (id-kind 7 t v).0 h in subst (λ (x : ℕ). Id x t) (sym (id-read t n g)) g

-- ---- strings
-- the head of a str, and the bytes behind it
str-told : (u t : List ℕ) → Str u t → ((head_at t 0).kind ≡ str) × (str_bytes t ≡ u)
str-told u t (a, v, e, g, q) =
    let h = str-head-is t 0 a v e (length u) g in
    (ap (λ (x : Head). x.kind) h, rw h (stands-next t 0 a v e ∙ q))

-- a value whose head is a str's is one
head-string : (d : ℕ) (t : List ℕ) → Value d t → (head_at t 0).kind ≡ str → Text t
head-string d t v h = (string-is d t v).0 (sym (kind-string t (head_at t 0) refl h))

text-str : (t : List ℕ) → Text t → Says MsgPack (str_bytes t) t
text-str t (u, k, g) = subst (λ (x : List ℕ). Says MsgPack x t) (sym (str-told u t g).1) (k, g)

-- ---- options
-- a key is a str of this text, or not
key-told : (key k : List ℕ) → Value 6 k → Str key k ⊎ ¬ Str key k
key-told key k v =
    split (eqb (head_at k 0).kind str && same (str_bytes k) key)
    (λ b.
    let q = and_left (eqb (head_at k 0).kind str) (same (str_bytes k) key) b in
    let e = same-eq (str_bytes k) key (and_right (eqb (head_at k 0).kind str) (same (str_bytes k) key) b) in
    inl (subst (λ (x : List ℕ). Str x k) e (text-str k (head-string 6 k v (eqb-true (head_at k 0).kind str q))).1))
    (λ b. inr (λ g. let (h, e) = str-told key k g in clash (rw (h, e) (same_refl key)) b))

-- it is a pair's, or no pair's
abbrev Found : List ℕ → List Pair → Type 0
Found key ps = ((p : Pair) × In p ps × Str key p.key) ⊎ ((p : Pair) → In p ps → ¬ Str key p.key)

find : (key : List ℕ) (ps : List Pair) → All (IsPair (Value 6)) ps → Found key ps
find key [] vs = inr (λ p i. absurd i)
find key (q ∷ ps) vs =
    ⊎_elim (λ g. inl (q, inl refl, g))
    (λ n.
    ⊎_elim (λ (f : (p : Pair) × In p ps × Str key p.key). inl (f.0, inr f.1, f.2))
    (λ none. inr (λ p i. ⊎_elim (λ e g. n (subst (λ (x : Pair). Str key x.key) e g)) (none p) i))
    (find key ps vs.1))
    (key-told key q.key vs.0.0)

-- no value is without bytes
none-empty : value 6 [] 0 ≡ None
unfolding value by_head head_at head_of form_of
none-empty = refl

value-some : (t : List ℕ) → Value 6 t → ¬ (t ≡ [])
value-some t v e = to-bad ((packed-value 6 []).1 (subst (Value 6) e v)) none-empty

has_value : (key v t : List ℕ) → Has MsgPack key v t → Value 6 v
has_value key v t (ps, m, p, i, k, q) = subst (Value 6) q (all_in (IsPair (Value 6)) ps p m.0 i).1

has-is : (t : List ℕ) → length t ≤ 2048 → (key v : List ℕ) → Has MsgPack key v t → value_in key t ≡ v
has-is t l key v (ps, m, p, i, k, q) = value-in t ps l m key p i k ∙ q

has-found : (t : List ℕ) → length t ≤ 2048 → (key : List ℕ) → Options MsgPack t → Has MsgPack key (value_in key t) t ⊎ (value_in key t ≡ [])
has-found t l key (ps, m) =
    ⊎_elim
    (λ (f : (p : Pair) × In p ps × Str key p.key). inl (ps, m, f.0, f.1, f.2, sym (value-in t ps l m key f.0 f.1 f.2)))
    (λ none. inr (none_in t ps l m key none))
    (find key ps m.0)

pub pack-laws : Laws MsgPack
pack-laws = record {
  accepted = λ es s (n, u, h). record { some = n; short = h.0; formed = (bytes-are s).1 u };
  made = λ s a n. (a.some, (bytes-are s).0 a.formed, listed_found s n);
  listed = λ es s m l. listed-is s es m.2 l;
  each = λ es s m. m.2.1;
  within-at = λ s k l. refl;
  kinds = λ s ps. kinds-texts s 0 ps;
  digit = digit;
  id-found = λ s p v h. id-found (text_of s p) v h;
  string-found = λ t v h. (string-is 7 t v).0 h;
  list-found = λ t v h. (list-is 6 t v).0 h;
  dict-found = λ t v h. (dict-is 6 t v).0 h;
  id-is = λ s p n g. id-read (text_of s p) n g;
  id-kind = λ n t g. id-kinded t n g;
  string-kind = λ t g. (string-is 7 t (inl (inr (inr (inr (inr (inr g))))))).1 g;
  list-kind = λ t g. (list-is 6 t (inr (inl g))).1 g;
  dict-kind = λ t g. (dict-is 6 t (inr (inr g))).1 g;
  string-is = λ t (u, k, g). eq-eqb (head_at t 0).kind str (str-told u t g).0;
  sound-found = λ t q. tt;
  sound-is = λ t q. refl;
  says-found = λ t g a. text-str t g;
  says-string = λ u t (k, g). (u, k, g);
  says-sound = λ u t g. tt;
  says_is = λ u t (k, g). (str-told u t g).1;
  options-found = λ s p l d q. (map_of (text_of s p)).0 d;
  options-are = λ s p l d. refl;
  options-dict = λ t d. (map_of t).1 d;
  has-options = λ key v t (ps, m, p, i, k, q). (ps, m);
  has_some = λ key v t h. value-some v (has_value key v t h);
  has-string = λ key v t h q. head-string 6 v (has_value key v t h) (eqb-true (head_at v 0).kind str q);
  has-found = λ s p l. has-found (text_of s p) (part-short s p l);
  has-is = λ s p l. has-is (text_of s p) (part-short s p l);
  true-is = refl;
  true-some = λ e. let z : ◌≡◌ {A = ℕ} 1 0 = ap length e in omega arith;
}
