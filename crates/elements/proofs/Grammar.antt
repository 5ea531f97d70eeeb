-- The elements of a message's outer list are those that the grammar of RFC 8259 gives. Assumes nothing.
-- `outer-found`, `outer-is`: elements are found exactly where the text is a list, and their texts are that list's elements; `found_in`, `is-in`:
-- the same of texts of any length, and `texts-in` where there are at most 7.
-- `listed_found`, `listed-is`: the same of the elements that `split` hands out, where there are at most 7.
-- `listed-stands`: each of these stands in the text where its span says.
use Rattle.std.specs.Prelude.{Some}
use mathlib.Core.Path.{◌≡◌, refl, sym, ap, ap₂, ◌∙◌}
use Prim.Native.Nat.{ℕ, zero, suc, ◌+◌, ◌-◌, ◌≤◌, ◌<◌}
use mathlib.Core.List.{List, [], ◌∷◌, ◌++◌, map, append_assoc, append-nil}
use native.Mathlib.Omega.{arith}
use lib.ListN.{length, drop, length-append, length-map}
use lib.Seq.{take_at}
use lib.Dec.{leb}
use borrow.Author.Tests.{le-leb, eq-eqb}
use Rattle.seq.specs.declared.Span.{Span}
use Rattle.seq.specs.Bytes.{byte_at, part, text_of}
use Rattle.seq.specs.Lists.{All}
use Rattle.seq.proofs.Logic.{split}
use Rattle.lex.specs.declared.Mark.{Mark}
use Rattle.lex.specs.Lex.{space, close_list, first, next}
use Rattle.lex.specs.Grammar.{Language, Is, ◌·◌, Ws}
use Rattle.lex.proofs.Stands.{reads_all, reads_then, stands-byte}
use Rattle.lex.proofs.Tokens.{Reads, stands-next, space-found, space-is}
use Rattle.json_text.specs.Json.{max_bytes, value}
use Rattle.json_text.specs.Grammar.{Rest, Array, Value}
use Rattle.json_text.proofs.Laws.{at-short}
use Rattle.json_text.proofs.Items.{reads-with, reads-part, stands-short, bracket}
use Rattle.json_text.proofs.Items.{last_found, next-found, none_found, first_found, rest-length, rest-ends, last-is, next-is, none_is, first-is}
use Rattle.json_text.proofs.Grammar.{value_found, value-is, value-head}
use Rattle.elements.specs.Elements.{Items, Are, Not, span, items, elements, outer_in, outer, few, listed_in, listed, at}
use Rattle.elements.specs.Grammar.{ListIn, ListOf}
use Rattle.elements.proofs.Exact.{Ordered, listed-in, listed-exact, listed-all}

-- what a walk gave is a list of these elements, which ends just before e
record Listing (s : List ℕ) (r : Items) (e : ℕ) (es : List (List ℕ)) : Type 0 where
  spans : List Span
  is : r ≡ Are spans e
  texts : map (text_of s) spans ≡ es

array_head : (es : List (List ℕ)) (t : List ℕ) → Array es t → (u : List ℕ) × (t ≡ 91 ∷ u)
array_head [] t h = (h.1, rw (h.2, h.3))
array_head (e ∷ es) t h = (h.1, rw (h.2, h.3))

-- ---- what is found is what the grammar gives
-- the text of an element, and what is read after it
element-then : (s : List ℕ) (p : Span) (e : ℕ) {B : Language} → value 7 s p.from ≡ Some p.to → Reads B s p.to e
    → Reads (Is (text_of s p) · B) s p.from e
element-then s p e h y =
    let x = value_found 7 s p.from p.to h in
    reads_then s p.from p.to e (reads-with {B = Is (text_of s p)} x (sym (reads-part x))) y

module _ (s : List ℕ) (e : ℕ) where
  rest-found : (d : ℕ) (ps : List Span) → Ordered (value 7 s) s e (next close_list s d) ps → Reads (Rest "]" (map (text_of s) ps)) s d e
  rest-found d [] c = last_found bracket s d e c
  rest-found d (p ∷ ps) c =
      next-found bracket s d p.from e (text_of s p) (map (text_of s) ps) c.0 (element-then s p e c.1 (rest-found p.to ps c.2))

  array-found : (a : ℕ) (ps : List Span) → byte_at s a ≡ 91 → Ordered (value 7 s) s e (first close_list s (a + 1)) ps
      → Reads (Array (map (text_of s) ps)) s a e
  array-found a [] o c = none_found bracket s "[" (omega arith) a o e c
  array-found a (p ∷ ps) o c =
      first_found bracket s "[" (omega arith) a o p.from e (text_of s p) (map (text_of s) ps) c.0
      (element-then s p e c.1 (rest-found p.to ps c.2))

  values-found : (m : Mark) (ps : List Span) → Ordered (value 7 s) s e m ps → All (Value 7) (map (text_of s) ps)
  values-found m [] c = tt
  values-found m (p ∷ ps) c =
      let x = value_found 7 s p.from p.to c.1 in
      (rw (reads-part x) x.good, values-found (next close_list s p.to) ps c.2)

pub found_in : (limit : ℕ) (s : List ℕ) (ps : List Span) (e : ℕ) → outer_in limit s ≡ Are ps e → ListIn limit (map (text_of s) ps) s
found_in limit s ps e h =
    let f = listed-in limit s ps e h in
    let c = f.ordered in
    let x : Reads Ws s e (length s) = rw f.rest at (space-found s e).0 in (
      f.short,
      values-found s e (first close_list s (space s 0 + 1)) ps c,
      reads_all (reads_then s 0 (space s 0) (length s) (space-found s 0).0
          (reads_then s (space s 0) e (length s) (array-found s e (space s 0) ps f.opens c) x)),
    )

pub outer-found : (s : List ℕ) (ps : List Span) (e : ℕ) → outer s ≡ Are ps e → ListOf (map (text_of s) ps) s
unfolding outer
outer-found s ps e h = found_in max_bytes s ps e h

-- ---- what the grammar gives is found
-- the element t at place a, with the elements es and then x behind it
element-is : (s : List ℕ) (a : ℕ) (t : List ℕ) (es : List (List ℕ)) (y x : List ℕ) → Value 7 t → drop a s ≡ y ++ x → (Is t · Rest "]" es) y
    → (u : List ℕ) × Rest "]" es u × (value 7 s a ≡ Some (a + length t)) × (drop (a + length t) s ≡ u ++ x) × (a + length t + length u ≡ a + length y)
    × (part a (a + length t) s ≡ t)
element-is s a t es y x v h (t', u, p, q, k) =
    let z : drop a s ≡ t ++ (u ++ x) = h ∙ rw (p, q) (append_assoc t u x) in (
      u,
      k,
      value-is 7 s a t (u ++ x) z v (rest-ends bracket es u x k),
      stands-next s a t (u ++ x) z,
      rw (p, q, length-append t u) (omega arith),
      rw z (take_at t (u ++ x) (a + length t - a) (omega arith)),
    )

items-are : (s : List ℕ) (es : List (List ℕ)) (f a : ℕ) (t y x : List ℕ) → length es < f → Value 7 t → All (Value 7) es
    → drop a s ≡ y ++ x → (Is t · Rest "]" es) y → Listing s (items (value 7 s) f s a) (a + length y) (t ∷ es)
unfolding items
items-are s [] zero a t y x l v vs h k = absurd (omega arith)
items-are s (t' ∷ es) zero a t y x l v vs h k = absurd (omega arith)
items-are s [] (suc f) a t y x l v vs h k =
    let (u, g, o, z, n, p) = element-is s a t [] y x v h k in
    record {
      spans = span a (a + length t) ∷ [];
      is = rw (o, last-is bracket s (a + length t) u x z g, n);
      texts = ap (λ (w : List ℕ). w ∷ []) p;
    }
items-are s (t' ∷ es) (suc f) a t y x l v vs h k =
    let (u, g, o, z, n, p) = element-is s a t (t' ∷ es) y x v h k in
    let (b, y', q, h', k', m) = next-is bracket s (a + length t) u x z t' es (value-head 7 t' vs.0) g in
    let r = items-are s es f b t' y' x (omega arith) vs.0 vs.1 h' k' in
    record {
      spans = span a (a + length t) ∷ r.spans;
      is = rw (o, q, r.is, sym m, n);
      texts = ap₂ ◌∷◌ p r.texts;
    }

-- a list whose bracket stands at i
array-is : (s : List ℕ) (es : List (List ℕ)) (i : ℕ) (t x : List ℕ) → All (Value 7) es → drop i s ≡ t ++ x → Array es t
    → Listing s (elements 7 s (i + 1)) (i + length t) es
unfolding elements
array-is s [] i t x vs h k = record { spans = []; is = rw (none_is bracket s i t x h "[" k); texts = refl }
array-is s (e ∷ es) i t x vs h k =
    let v = value-head 7 e vs.0 in
    let (a, y, q, h', k', m) = first-is bracket s i t x h "[" e es v v.4 k in
    let (u, g, o, z, n, p) = element-is s a e es y x vs.0 h' k' in
    let l : length es < length s = omega (arith, rest-length bracket es u g, stands-short s (a + length e) u x z) in
    let r = items-are s es (length s) a e y x l vs.0 vs.1 h' k' in
    record { spans = r.spans; is = rw (q, r.is, m); texts = r.texts }

pub is-in : (limit : ℕ) (s : List ℕ) (es : List (List ℕ)) → ListIn limit es s
    → (ps : List Span) × (e : ℕ) × (outer_in limit s ≡ Are ps e) × (map (text_of s) ps ≡ es)
is-in limit s es (short, vs, (w, tv, d, blank, (t, v, d', k, blank'))) =
    let i = space s 0 in
    let (u, o) = array_head es t k in
    let p : s ≡ w ++ (t ++ v) = d ∙ ap (λ (r : List ℕ). w ++ r) d' in
    let q : t ++ v ≡ 91 ∷ (u ++ v) = ap (λ (r : List ℕ). r ++ v) o in
    let z : i ≡ 0 + length w = space-is s 0 w (t ++ v) p blank (rw q refl) in
    let y : drop i s ≡ t ++ v = ap (λ (n : ℕ). drop n s) z ∙ stands-next s 0 w (t ++ v) p in
    let g = array-is s es i t v vs y k in
    let e = i + length t in
    let r : space s e ≡ e + length v = space-is s e v [] (stands-next s i t v y ∙ sym (append-nil v)) blank' refl in
    let n : length s ≡ length w + (length t + length v) = rw p (simp length-append) in
    let l : space s e ≡ length s = omega arith in
    (g.spans, e, rw (le-leb (length s) limit short, stands-byte s i (91 ∷ (u ++ v)) (y ∙ q), g.is, eq-eqb (space s e) (length s) l), g.texts)

pub outer-is : (s : List ℕ) (es : List (List ℕ)) → ListOf es s → (ps : List Span) × (e : ℕ) × (outer s ≡ Are ps e) × (map (text_of s) ps ≡ es)
unfolding outer
outer-is s es h = is-in max_bytes s es h

-- ---- the elements, where there are at most 7
pub texts-in : (limit : ℕ) (s : List ℕ) (es : List (List ℕ)) → ListIn limit es s → length es ≤ 7 → map (text_of s) (listed_in limit s) ≡ es
texts-in limit s es h l =
    let (ps, e, o, t) = is-in limit s es h in
    let n : length ps ≡ length es = sym (length-map ps (text_of s)) ∙ ap length t in
    rw (o, le-leb (length ps) 7 (omega arith)) t

-- ---- and those that `split` hands out
pub listed_found : (s : List ℕ) → 0 < length (listed s) → ListOf (map (text_of s) (listed s)) s
unfolding listed
listed_found s = go (outer s) refl
  where
    go : (r : Items) → outer s ≡ r → 0 < length (few r) → ListOf (map (text_of s) (few r)) s
    go (Are ps e) h = split (leb (length ps) 7) (λ b. rw b (λ l. outer-found s ps e h)) (λ b. rw b (λ l. absurd (omega arith)))
    go Not h = λ l. absurd (omega arith)

pub listed-is : (s : List ℕ) (es : List (List ℕ)) → ListOf es s → length es ≤ 7 → map (text_of s) (listed s) ≡ es
listed-is s es h l =
    let (ps, e, o, t) = outer-is s es h in
    let n : length ps ≡ length es = sym (length-map ps (text_of s)) ∙ ap length t in
    rw (listed-all s ps e o (omega arith)) t

-- each stands in the text from where its span says on, up to where it says
pub listed-stands : (s : List ℕ) (k : ℕ) → k < length (listed s)
    → (r : List ℕ) × (drop (at k (listed s)).from s ≡ text_of s (at k (listed s)) ++ r)
    × ((at k (listed s)).to ≡ (at k (listed s)).from + length (text_of s (at k (listed s))))
listed-stands s k l =
    let f = listed-exact s (omega arith) in
    let p = at k (listed s) in
    let short = (listed_found s (omega arith)).0 in
    let x = value_found 7 s p.from p.to (sym (at-short 7 s p.from short) ∙ f.1.values k l) in
    (x.rest, rw (reads-part x) x.stands, rw (reads-part x) x.ends)
