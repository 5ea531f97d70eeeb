-- Laws of specs/Elements.antt: one turn of the walk over a list's elements. Assumes nothing.
use Rattle.std.specs.Prelude.{Some, None, Option}
use mathlib.Core.Path.{◌≡◌, refl, sym, ap, subst, ◌∙◌}
use Prim.Native.Nat.{ℕ, zero, suc, ◌+◌, ◌*◌, ◌-◌, ◌≤◌, ◌<◌}
use mathlib.Core.List.{List, [], ◌∷◌, ◌++◌, append-nil, append_assoc}
use mathlib.Core.Bool.{Bool, true, false, cond}
use native.Mathlib.Omega.{arith}
use native.Mathlib.Numerals.{add-one}
use lib.ListN.{length, get_or, set, replicate, length-append}
use lib.Dec.{eqb, leb}
use borrow.Author.Tests.{le-leb, lt-leb, ne_eqb, eq-eqb}
use Rattle.seq.specs.declared.Span.{Span}
use Rattle.seq.specs.Bytes.{byte_at, part, text_of}
use Rattle.lex.specs.declared.Mark.{Mark}
use Rattle.lex.specs.declared.Mark.TheVariants.{Item, End, Neither}
use Rattle.lex.specs.Lex.{space, first, next, Marked}
use Rattle.json_text.specs.Json.{max_bytes, value}
use Rattle.json_text.proofs.Laws.{Fuel}
use Rattle.elements.specs.declared.Elements.{Elements}
use Rattle.elements.specs.Kinds.{kind}
use Rattle.elements.specs.Elements.{Items, Are, Not, span, after, on_to, on_mark, items, elements, whole, outer, few, listed, kinds_from}
use Rattle.elements.specs.Elements.{blank, at, held, nothing, pushed}
use Rattle.elements.proofs.IdLaws.{kind-small}

-- ---- what the code holds
made : {a b c d : ℕ} {u v : List Span} → a ≡ b → c ≡ d → u ≡ v
    → ◌≡◌ {A = Elements} (record { kinds = a; n = c; spans = u }) (record { kinds = b; n = d; spans = v })
made p q r = cc

pub none_is : (s : List ℕ) (ps : List Span) → ps ≡ [] → nothing ≡ held s ps
unfolding kinds_from
none_is s ps e = rw e

kinds-snoc : (s : List ℕ) (v : ℕ) (ps : List Span) (p : Span) → kinds_from s v (ps ++ (p ∷ [])) ≡ kinds_from s v ps * 10 + kind (text_of s p)
unfolding kinds_from
kinds-snoc s v [] p = refl
kinds-snoc s v (u ∷ ps) p = kinds-snoc s (v * 10 + kind (text_of s u)) ps p

set-blank : (ps : List Span) (p : Span) (m : ℕ) → set (ps ++ replicate (suc m) blank) (length ps) p ≡ (ps ++ (p ∷ [])) ++ replicate m blank
set-blank [] p m = refl
set-blank (u ∷ ps) p m = ap (λ (l : List Span). u ∷ l) (set-blank ps p m)

held_more : (s : List ℕ) (ps : List Span) (p : Span) → length ps < 7 → pushed s (held s ps) p ≡ held s (ps ++ (p ∷ []))
held_more s ps p h =
    let n : length (ps ++ (p ∷ [])) ≡ length ps + 1 = simp length-append in
    let m : 7 - length ps ≡ suc (7 - length (ps ++ (p ∷ []))) = omega arith in
    made (sym (kinds-snoc s 0 ps p)) (sym n) (rw m (set-blank ps p (7 - length (ps ++ (p ∷ [])))))

-- past the elements the array is blank
blank-at : (n k : ℕ) → get_or (replicate n blank) k blank ≡ blank
blank-at zero k = refl
blank-at (suc n) zero = refl
blank-at (suc n) (suc k) = blank-at n k

pub padded-at : (ps : List Span) (n k : ℕ) → at k (ps ++ replicate n blank) ≡ at k ps
padded-at [] n k = blank-at n k
padded-at (p ∷ ps) n zero = refl
padded-at (p ∷ ps) n (suc k) = padded-at ps n k

-- element k as the code holds it
pub held_at : (s : List ℕ) (ps : List Span) (k : ℕ) → at k (held s ps).spans ≡ at k ps
held_at s ps k = padded-at ps (7 - length ps) k

-- ---- the kinds of at most 7 elements fit
unfoldable pub ten : ℕ → ℕ
ten zero = 1
ten (suc n) = 10 * ten n

pub ten-small : (n : ℕ) → n < 7 → ten n ≤ 1000000
unfolding ten
ten-small zero h = omega arith
ten-small (suc zero) h = omega arith
ten-small (suc (suc zero)) h = omega arith
ten-small (suc (suc (suc zero))) h = omega arith
ten-small (suc (suc (suc (suc zero)))) h = omega arith
ten-small (suc (suc (suc (suc (suc zero))))) h = omega arith
ten-small (suc (suc (suc (suc (suc (suc zero)))))) h = omega arith
ten-small (suc (suc (suc (suc (suc (suc (suc n))))))) h = absurd (omega arith)

ten-more : (n v : ℕ) (t : List ℕ) → v < ten n → v * 10 + kind t < ten (n + 1)
unfolding ten
ten-more n v t h = rw (add-one n) (omega (arith, kind-small t))

-- ---- the walk: from the mark m on, with the elements so far in r, the list's elements are w
pub record Walk (s : List ℕ) (m : Mark) (r : Elements) (w : Items) : Type 0 where
  pub ps : List Span
  pub holds : r ≡ held s ps
  pub count : length ps ≡ r.n
  pub small : r.kinds < ten r.n
  pub limit : r.n ≤ 7
  pub fuel : ℕ
  pub rest : after ps (on_mark m (items (value 7 s) fuel s)) ≡ w
  pub enough : Fuel fuel (length s) m

after_none : (i : Items) → after [] i ≡ i
after_none (Are us e) = refl
after_none Not = refl

after-after : (ps us : List Span) (i : Items) → after ps (after us i) ≡ after (ps ++ us) i
after-after ps us (Are vs e) = ap (λ (l : List Span). Are l e) (sym (append_assoc ps us vs))
after-after ps us Not = refl

pub walk_begins : (s : List ℕ) (m : Mark) (r : Elements) (i : ℕ) → m ≡ first 93 s i → r ≡ nothing → Walk s m r (elements 7 s i)
unfolding elements ten
walk_begins s m r i e h = record {
  ps = [];
  holds = h ∙ none_is s [] refl;
  count = ap (λ (x : Elements). x.n) (sym h);
  small = rw h (omega arith);
  limit = rw h (omega arith);
  fuel = length s;
  rest = after_none (on_mark m (items (value 7 s) (length s) s)) ∙ ap (λ (x : Mark). on_mark x (items (value 7 s) (length s) s)) e;
  enough = full m;
}
  where
    full : (x : Mark) → Fuel (length s) (length s) x
    full (Item a) = omega arith
    full (End e) = tt
    full Neither = tt

pub items-go : (item : ℕ → Option ℕ) (s : List ℕ) (f a e : ℕ) → item a ≡ Some e → a < e → e ≤ length s → length s ≤ f + a
    → (m : Mark) → m ≡ next 93 s e → Marked e (length s) m
    → (g : ℕ) × (items item f s a ≡ after (span a e ∷ []) (on_mark m (items item g s))) × Fuel g (length s) m
unfolding items
items-go item s zero a e h lt le u m n k = absurd (omega arith)
items-go item s (suc f) a e h lt le u m n k = (f, rw (h, sym n), enough m k)
  where
    enough : (x : Mark) → Marked e (length s) x → Fuel f (length s) x
    enough (Item b) w = omega arith
    enough (End b) w = tt
    enough Neither w = tt

pub items-bad : (item : ℕ → Option ℕ) (s : List ℕ) (f a : ℕ) → item a ≡ None → items item f s a ≡ Not
unfolding items
items-bad item s zero a h = refl
items-bad item s (suc f) a h = rw h

-- what is listed of the elements w
abbrev pub kept : List ℕ → Items → List Span
kept s w = few (whole s w)

module _ (s : List ℕ) (m : Mark) (r : Elements) (w : Items) (k : Walk s m r w) where
  at_mark : (x : Mark) → m ≡ x → after k.ps (on_mark x (items (value 7 s) k.fuel s)) ≡ w
  at_mark x e = ap (λ (y : Mark). after k.ps (on_mark y (items (value 7 s) k.fuel s))) (sym e) ∙ k.rest

  pub walk-goes : (m' : Mark) (r' : Elements) (a e : ℕ) → m ≡ Item a → value 7 s a ≡ Some e → (a < e) × (e ≤ length s) → r.n < 7
      → r' ≡ pushed s r (span a e) → m' ≡ next 93 s e → Marked e (length s) m' → Walk s m' r' w
  walk-goes m' r' a e h b i room p n q =
      let u : length s ≤ k.fuel + a = subst (λ (x : Mark). Fuel k.fuel (length s) x) h k.enough in
      let g = items-go (value 7 s) s k.fuel a e b i.0 i.1 u m' n q in
      record {
        ps = k.ps ++ (span a e ∷ []);
        holds = p ∙ ap (λ (x : Elements). pushed s x (span a e)) k.holds ∙ held_more s k.ps (span a e) (omega (arith, k.count));
        count = rw p (simp length-append (omega (arith, k.count)));
        small = rw p (ten-more r.n r.kinds (part a e s) k.small);
        limit = rw p (omega arith);
        fuel = g.0;
        rest = sym (after-after k.ps (span a e ∷ []) (on_mark m' (items (value 7 s) g.0 s))) ∙ ap (after k.ps) (sym g.1) ∙ at_mark
            (Item a) h;
        enough = g.2;
      }

  pub walk_ends : (e : ℕ) → m ≡ End e → space s e ≡ length s → r ≡ held s (kept s w)
  walk_ends e h z = k.holds ∙ ap (held s) (sym (ap (kept s) (sym (at_mark (End e) h)) ∙ kept-is))
    where
      kept-is : kept s (Are (k.ps ++ []) e) ≡ k.ps
      kept-is = rw (append-nil k.ps, z, eq-eqb (length s) (length s) refl, le-leb (length k.ps) 7 (omega (arith, k.count, k.limit)))

  pub walk-trails : (e : ℕ) → m ≡ End e → (space s e ≡ length s → ⊥) → kept s w ≡ []
  walk-trails e h z = ap (kept s) (sym (at_mark (End e) h)) ∙ kept-not
    where
      kept-not : kept s (Are (k.ps ++ []) e) ≡ []
      kept-not = rw (ne_eqb (space s e) (length s) z)

  pub walk-breaks : m ≡ Neither → kept s w ≡ []
  walk-breaks h = ap (kept s) (sym (at_mark Neither h))

  pub walk-fails : (a : ℕ) → m ≡ Item a → value 7 s a ≡ None → kept s w ≡ []
  walk-fails a h b = ap (kept s) (sym (at_mark (Item a) h)) ∙ ap (λ (i : Items). kept s (after k.ps i)) (items-bad (value 7 s) s k.fuel a b)

  many : (i : Items) (t : Span) → 7 ≤ length k.ps → kept s (after k.ps (after (t ∷ []) i)) ≡ []
  many (Are us e) t h = go (eqb (space s e) (length s))
    where
      long : leb (length (k.ps ++ (t ∷ us))) 7 ≡ false
      long = lt-leb (length (k.ps ++ (t ∷ us))) 7 (simp length-append (omega arith))

      go : (b : Bool) → few (cond b (Are (k.ps ++ (t ∷ us)) e) Not) ≡ []
      go true = rw long
      go false = refl
  many Not t h = refl

  more : (f a : ℕ) → 7 ≤ length k.ps → kept s (after k.ps (items (value 7 s) f s a)) ≡ []
  unfolding items
  more zero a h = refl
  more (suc f) a h = go (value 7 s a)
    where
      go : (x : Option ℕ) → kept s (after k.ps (on_to x (λ e. after (span a e ∷ []) (on_mark (next 93 s e) (items (value 7 s) f s))))) ≡ []
      go (Some e) = many (on_mark (next 93 s e) (items (value 7 s) f s)) (span a e) h
      go None = refl

  pub walk-overflows : (a : ℕ) → m ≡ Item a → 7 ≤ r.n → kept s w ≡ []
  walk-overflows a h n = ap (kept s) (sym (at_mark (Item a) h)) ∙ more k.fuel a (omega (arith, k.count))

-- ---- the whole text
pub listed-long : (s : List ℕ) → max_bytes < length s → listed s ≡ []
unfolding listed outer
listed-long s h = rw (lt-leb (length s) max_bytes h)

module _ (s : List ℕ) (a b : ℕ) (l : length s ≤ max_bytes) (ea : a ≡ space s 0) (eb : b ≡ byte_at s a) where
  pub listed-not : (b ≡ 91 → ⊥) → listed s ≡ []
  unfolding listed outer
  listed-not h = rw (le-leb (length s) max_bytes l, sym ea, sym eb, ne_eqb b 91 h)

  pub listed-is : b ≡ 91 → listed s ≡ kept s (elements 7 s (a + 1))
  unfolding listed outer
  listed-is h = rw (le-leb (length s) max_bytes l, sym ea, sym eb, h)

pub none_from : (s : List ℕ) (r : Elements) (ps : List Span) → r ≡ nothing → ps ≡ [] → r ≡ held s ps
none_from s r ps e h = e ∙ none_is s ps h
