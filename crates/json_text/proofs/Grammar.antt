-- specs/Json.antt and specs/Grammar.antt agree: `value` ends where a value of the grammar ends, and `is_text` passes exactly the grammar's texts
-- within the limit of bytes. Assumes nothing.
use Rattle.std.specs.Prelude.{Some, None, Option}
use Prim.Native.Nat.{ℕ, zero, suc, ◌+◌, ◌-◌, ◌≤◌}
use Prim.Native.Char.{Char, code}
use mathlib.Core.List.{List, [], ◌∷◌, ◌++◌, map, append-nil}
use mathlib.Core.Bool.{Bool, true, false, ◌||◌}
use mathlib.Core.Logic.{inl, inr, ◌↔◌}
use mathlib.Core.Path.{◌≡◌, refl, sym, ap, ◌∙◌}
use native.Mathlib.Omega.{arith}
use lib.ListN.{length, drop, take-append-drop, length-append}
use lib.Seq.{take_at}
use lib.Dec.{eqb, leb}
use borrow.Author.Tests.{eqb-true, eq-eqb, ne_eqb, le-leb, leb-true}
use Rattle.seq.specs.Lists.{All}
use Rattle.seq.specs.Bytes.{is, between, is_digit, chars, byte_at, part, same}
use Rattle.seq.proofs.Logic.{split, clash, or_right}
use Rattle.seq.proofs.Bytes.{same-eq, same_refl, digit-bounds}
use Rattle.lex.specs.Lex.{space, is_space}
use Rattle.lex.specs.Grammar.{Language, Is, String}
use Rattle.lex.proofs.Stands.{reads_then, reads_all, stands-byte, to_same, to-bad}
use Rattle.lex.proofs.Tokens.{number-head, string-head, Ends, Reads, stands-next, space-found, space-is, number-found, number_is, quoted-found, quoted-is}
use Rattle.lex.proofs.Laws.{space-last}
use Rattle.json_text.specs.Json.{literal, by_first, value, list, dict, max_bytes, max_depth, value_at, is_rest, is_text}
use Rattle.json_text.specs.Grammar.{Enclosed, Array, Member, Object, Scalar, Value, Text}
use Rattle.json_text.proofs.Laws.{value-string, value-list, value-dict, value-minus, value-digit, value-true, value-false, value-null}
use Rattle.json_text.proofs.Items.{reads-with, ws-ends, Begins, begins-space}
use Rattle.json_text.proofs.Lists.{list-found, list-is}
use Rattle.json_text.proofs.Dicts.{dict-found, dict-is}

-- ---- a literal name
pub literal-found : (w s : List ℕ) (i e : ℕ) → literal w s i ≡ Some e → Reads (Is w) s i e
unfolding literal
literal-found w s i e h = split (same (part i (i + length w) s) w) (λ t. record {
  text = w;
  rest = drop (i + length w - i) (drop i s);
  stands = sym (take-append-drop (i + length w - i) (drop i s)) ∙ ap (λ (l : List ℕ). l ++ drop (i + length w - i) (drop i s)) (same-eq _ w t);
  ends = sym (to_same refl (rw t at h));
  good = refl;
}) (λ t. to-bad (rw t at h) refl)

literal-stands : (w s : List ℕ) (i : ℕ) (r : List ℕ) → drop i s ≡ w ++ r → literal w s i ≡ Some (i + length w)
unfolding literal
literal-stands w s i r h = rw (h, take_at w r (i + length w - i) (omega arith), same_refl w)

-- ---- first bytes
-- bytes among which are all that a scalar may start with, and no other that a rule names
abbrev plain : ℕ → Bool
plain b = between "-" "9" b || (is "\"" b || between "a" "z" b)

differ : (b c : ℕ) → plain b ≡ true → plain c ≡ false → ¬ (b ≡ c)
differ b c h k e = clash h (rw e k)

pub begins-with : (t : List ℕ) (b : ℕ) (u : List ℕ) → t ≡ b ∷ u → plain b ≡ true → Begins t
begins-with t b u e h =
    let s : is_space b ≡ false = space-last b (differ b 32 h refl) (differ b 9 h refl) (differ b 10 h refl) ∙ ne_eqb b 13 (differ b 13 h refl) in
    (b, u, e, s, differ b 93 h refl, differ b 125 h refl, differ b 44 h refl, differ b 58 h refl)

-- a minus or a digit
number-bytes : (b : ℕ) → (is "-" b || is_digit b) ≡ true → (45 ≤ b) × (b ≤ 57)
number-bytes b h = split (eqb b 45)
    (λ t. let e = eqb-true b 45 t in (omega arith, omega arith))
    (λ t. let (l, m) = digit-bounds b (or_right (is "-" b) (is_digit b) h t) in (omega arith, omega arith))

pub enclosed-begins : (o c : Char) (es : List (List ℕ)) (t : List ℕ) → Enclosed o c es t → (u : List ℕ) × (t ≡ code o ∷ u)
enclosed-begins o c [] t (x, y, e, q, m) = (y, rw (e, q))
enclosed-begins o c (z ∷ es) t (x, y, e, q, m) = (y, rw (e, q))

-- the first byte of a scalar
scalar-plain : (t : List ℕ) → Scalar t → (b : ℕ) × (u : List ℕ) × (t ≡ b ∷ u) × (plain b ≡ true)
scalar-plain t (inl e) = (102, _, e, refl)
scalar-plain t (inr (inl e)) = (110, _, e, refl)
scalar-plain t (inr (inr (inl e))) = (116, _, e, refl)
scalar-plain t (inr (inr (inr (inl g)))) =
    let (b, u, e, h) = number-head t g in
    let (l, m) = number-bytes b h in
    (b, u, e, rw (le-leb 45 b l, le-leb b 57 m))
scalar-plain t (inr (inr (inr (inr g)))) = let (u, e) = string-head t g in (34, u, e, refl)

scalar-not : (t : List ℕ) (c : ℕ) → plain c ≡ false → Scalar t → ¬ (byte_at t 0 ≡ c)
scalar-not t c h g k = let (b, u, e, p) = scalar-plain t g in differ b c p h (sym (ap (λ (l : List ℕ). byte_at l 0) e) ∙ k)

scalar-quote : (t : List ℕ) → Scalar t → byte_at t 0 ≡ 34 → String t
scalar-quote t (inl e) h = absurd (omega (arith, rw e at h))
scalar-quote t (inr (inl e)) h = absurd (omega (arith, rw e at h))
scalar-quote t (inr (inr (inl e))) h = absurd (omega (arith, rw e at h))
scalar-quote t (inr (inr (inr (inl g)))) h =
    let (b, u, e, k) = number-head t g in
    let (l, m) = number-bytes b k in
    absurd (omega (arith, sym h ∙ ap (λ (l : List ℕ). byte_at l 0) e))
scalar-quote t (inr (inr (inr (inr g)))) h = g

dict-byte : {A : Language} (t : List ℕ) (ms : List Member) → Object A ms t → (u : List ℕ) × (t ≡ 123 ∷ u)
dict-byte t ms o = enclosed-begins "{" "}" (map (λ m. m.text) ms) t o.whole

list-byte : (t : List ℕ) (es : List (List ℕ)) → Array es t → (u : List ℕ) × (t ≡ 91 ∷ u)
list-byte t es h = enclosed-begins "[" "]" es t h

scalar-value : (d : ℕ) (t : List ℕ) → Scalar t → Value d t
scalar-value zero t g = g
scalar-value (suc d) t g = inl g

scalar-head : (t : List ℕ) → Scalar t → Begins t
scalar-head t g = let (b, u, e, p) = scalar-plain t g in begins-with t b u e p

-- what a value starts with: no white space, and none of the bytes that stand between values
pub value-head : (d : ℕ) (t : List ℕ) → Value d t → Begins t
value-head zero t g = scalar-head t g
value-head (suc d) t (inl g) = scalar-head t g
value-head (suc d) t (inr (inl (ms, o))) =
    let (u, e) = dict-byte t ms o in
    (123, u, e, refl, λ z. omega arith, λ z. omega arith, λ z. omega arith, λ z. omega arith)
value-head (suc d) t (inr (inr (es, g, o))) =
    let (u, e) = list-byte t es o in
    (91, u, e, refl, λ z. omega arith, λ z. omega arith, λ z. omega arith, λ z. omega arith)

-- which value, by its first byte
pub value-quote : (d : ℕ) (t : List ℕ) → Value d t → byte_at t 0 ≡ 34 → String t
value-quote zero t g h = scalar-quote t g h
value-quote (suc d) t (inl g) h = scalar-quote t g h
value-quote (suc d) t (inr (inl (ms, o))) h = let (u, e) = dict-byte t ms o in absurd (omega (arith, sym h ∙ ap (λ (l : List ℕ). byte_at l 0) e))
value-quote (suc d) t (inr (inr (es, g, o))) h = let (u, e) = list-byte t es o in absurd (omega (arith, sym h ∙ ap (λ (l : List ℕ). byte_at l 0) e))

pub value-brace : (d : ℕ) (t : List ℕ) → Value (suc d) t → byte_at t 0 ≡ 123 → (ms : List Member) × Object (Value d) ms t
value-brace d t (inl g) h = absurd (scalar-not t 123 refl g h)
value-brace d t (inr (inl m)) h = m
value-brace d t (inr (inr (es, g, o))) h = let (u, e) = list-byte t es o in absurd (omega (arith, sym h ∙ ap (λ (l : List ℕ). byte_at l 0) e))

pub value-bracket : (d : ℕ) (t : List ℕ) → Value (suc d) t → byte_at t 0 ≡ 91 → (es : List (List ℕ)) × All (Value d) es × Array es t
value-bracket d t (inl g) h = absurd (scalar-not t 91 refl g h)
value-bracket d t (inr (inl (ms, o))) h = let (u, e) = dict-byte t ms o in absurd (omega (arith, sym h ∙ ap (λ (l : List ℕ). byte_at l 0) e))
value-bracket d t (inr (inr m)) h = m

-- ---- a value
by-first : (d : ℕ) (s : List ℕ) (i e : ℕ) (on_list on_dict : Option ℕ) → (byte_at s i ≡ 91 → on_list ≡ Some e → Reads (Value d) s i e)
    → (byte_at s i ≡ 123 → on_dict ≡ Some e → Reads (Value d) s i e) → by_first on_list on_dict s i ≡ Some e → Reads (Value d) s i e
unfolding by_first
by-first d s i e on_list on_dict l m h =
    split (eqb (byte_at s i) 34) (λ t. scalar (λ x g. inr (inr (inr (inr g)))) (quoted-found s i e (rw t at h))) λ n1.
    split (eqb (byte_at s i) 91) (λ t. l (eqb-true _ 91 t) (rw (n1, t) at h)) λ n2.
    split (eqb (byte_at s i) 123) (λ t. m (eqb-true _ 123 t) (rw (n1, n2, t) at h)) λ n3.
    split (is "-" (byte_at s i) || is_digit (byte_at s i))
    (λ t. scalar (λ x g. inr (inr (inr (inl g)))) (number-found s i e (rw (n1, n2, n3, t) at h))) λ n4.
    split (eqb (byte_at s i) 116) (λ t. scalar (λ x g. inr (inr (inl g))) (literal-found (chars "true") s i e (rw (n1, n2, n3, n4, t) at h))) λ n5.
    split (eqb (byte_at s i) 102) (λ t. scalar (λ x g. inl g) (literal-found (chars "false") s i e (rw (n1, n2, n3, n4, n5, t) at h))) λ n6.
    split (eqb (byte_at s i) 110)
    (λ t. scalar (λ x g. inr (inl g)) (literal-found (chars "null") s i e (rw (n1, n2, n3, n4, n5, n6, t) at h)))
    (λ t. to-bad (rw (n1, n2, n3, n4, n5, n6, t) at h) refl)
  where
    scalar : {A : Language} → ((t : List ℕ) → A t → Scalar t) → Reads A s i e → Reads (Value d) s i e
    scalar f x = reads-with x (scalar-value d x.text (f x.text x.good))

pub value_found : (d : ℕ) (s : List ℕ) (i e : ℕ) → value d s i ≡ Some e → Reads (Value d) s i e
unfolding value
value_found zero s i e h = by-first zero s i e None None (λ b k. to-bad k refl) (λ b k. to-bad k refl) h
value_found (suc d) s i e h = by-first (suc d) s i e _ _
    (λ b k. let x = list-found (Value d) (value d s) s (value_found d s) i e b k in reads-with x (inr (inr x.good)))
    (λ b k. let x = dict-found (Value d) (value d s) s (value_found d s) i e b k in reads-with x (inr (inl x.good))) h

scalar_is : (d : ℕ) (s : List ℕ) (i : ℕ) (t r : List ℕ) → drop i s ≡ t ++ r → Scalar t → Ends r → value d s i ≡ Some (i + length t)
scalar_is d s i t r h (inl e) end =
    let k : drop i s ≡ chars "false" ++ r = h ∙ rw e in
    value-false d s i (byte_at s i) refl (stands-byte s i _ k) ∙ literal-stands (chars "false") s i r k ∙ rw e
scalar_is d s i t r h (inr (inl e)) end =
    let k : drop i s ≡ chars "null" ++ r = h ∙ rw e in
    value-null d s i (byte_at s i) refl (stands-byte s i _ k) ∙ literal-stands (chars "null") s i r k ∙ rw e
scalar_is d s i t r h (inr (inr (inl e))) end =
    let k : drop i s ≡ chars "true" ++ r = h ∙ rw e in
    value-true d s i (byte_at s i) refl (stands-byte s i _ k) ∙ literal-stands (chars "true") s i r k ∙ rw e
scalar_is d s i t r h (inr (inr (inr (inl g)))) end =
    let (b, u, e, m) = number-head t g in
    let q : byte_at s i ≡ b = stands-byte s i _ h ∙ ap (λ (l : List ℕ). byte_at (l ++ r) 0) e in
    split (eqb b 45)
    (λ z. value-minus d s i b (sym q) (eqb-true b 45 z))
    (λ z. let (l, l') = digit-bounds b (or_right (is "-" b) (is_digit b) m z) in value-digit d s i b (sym q) l l')
    ∙ number_is s i t r h g end
scalar_is d s i t r h (inr (inr (inr (inr g)))) end =
    let (u, e) = string-head t g in
    value-string d s i (byte_at s i) refl (stands-byte s i _ h ∙ ap (λ (l : List ℕ). byte_at (l ++ r) 0) e) ∙ quoted-is s i t r h g

pub value-is : (d : ℕ) (s : List ℕ) (i : ℕ) (t r : List ℕ) → drop i s ≡ t ++ r → Value d t → Ends r → value d s i ≡ Some (i + length t)
unfolding list dict
value-is zero s i t r h g end = scalar_is zero s i t r h g end
value-is (suc d) s i t r h (inl g) end = scalar_is (suc d) s i t r h g end
value-is (suc d) s i t r h (inr (inl (ms, o))) end =
    let (u, e) = dict-byte t ms o in
    value-dict (suc d) s i (byte_at s i) refl (stands-byte s i _ h ∙ ap (λ (l : List ℕ). byte_at (l ++ r) 0) e)
    ∙ dict-is (Value d) (value d s) s (value-head d) (λ j x y. value-is d s j x y) ms i t r h o
value-is (suc d) s i t r h (inr (inr (es, gs, o))) end =
    let (u, e) = list-byte t es o in
    value-list (suc d) s i (byte_at s i) refl (stands-byte s i _ h ∙ ap (λ (l : List ℕ). byte_at (l ++ r) 0) e)
    ∙ list-is (Value d) (value d s) s (value-head d) (λ j x y. value-is d s j x y) es i t r h gs o

-- a text that is one value
pub whole-value : (d : ℕ) (t : List ℕ) → Value d t → value d t 0 ≡ Some (length t)
whole-value d t g =
    let z : 0 + length t ≡ length t = omega arith in value-is d t 0 t [] (sym (append-nil t)) g (refl, refl, refl, refl) ∙ ap Some z

-- ---- a whole text
text-grammar : (s : List ℕ) → is_text s ≡ true → (length s ≤ 2048) × Text s
unfolding is_text value_at
text-grammar s h =
    split (leb (length s) max_bytes)
    (λ t. (leb-true _ _ t, go (value max_depth s (space s 0)) refl (rw t at h)))
    (λ t. clash (rw t at h) refl)
  where
    go : (v : Option ℕ) → value max_depth s (space s 0) ≡ v → is_rest s v ≡ true → Text s
    go (Some e) k h =
        let inner = reads_then s (space s 0) e (space s e) (value_found 8 s (space s 0) e k) (space-found s e).0 in
        let whole : Reads Text s 0 (space s e) = reads_then s 0 (space s 0) (space s e) (space-found s 0).0 inner in
        reads_all (rw (eqb-true (space s e) (length s) h) at whole)
    go None k h = clash h refl

grammar-text : (s : List ℕ) → length s ≤ 2048 → Text s → is_text s ≡ true
unfolding is_text value_at
grammar-text s l (w, y, e, gw, (t, z, e', g, gz)) = rw (
  le-leb (length s) max_bytes l,
  space-is s 0 w (t ++ z) whole gw (begins-space t z (value-head 8 t g)),
  value-is 8 s (0 + length w) t z after g ends,
) (eq-eqb _ _ (space-is s (0 + length w + length t) z [] (stands-next s (0 + length w) t z after ∙ sym (append-nil z)) gz refl ∙ long))
  where
    whole : s ≡ w ++ (t ++ z)
    whole = rw (e, e')

    after : drop (0 + length w) s ≡ t ++ z
    after = stands-next s 0 w (t ++ z) whole

    ends : Ends z
    ends = rw (append-nil z) at (ws-ends z [] gz (refl, refl, refl, refl))

    long : 0 + length w + length t + length z ≡ length s
    long = rw (e, e', length-append w (t ++ z), length-append t z) (omega arith)

pub json-text : (s : List ℕ) → is_text s ≡ true ↔ ((length s ≤ 2048) × Text s)
json-text s = (text-grammar s, λ (l, g). grammar-text s l g)
