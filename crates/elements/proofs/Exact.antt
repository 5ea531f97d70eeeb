-- All elements of a message's outer list are found, in order, and nothing else. Assumes nothing.
-- `elements-found`: elements are found exactly where the whole text is one JSON value and that is a list.
-- `elements-exact`: what is found, from the opening bracket to the end of the text (`Found`).
-- `listed-exact`, `listed-all`: the same of the elements that `split` hands out.
use Rattle.std.specs.Prelude.{Some, None, Option}
use mathlib.Core.Path.{◌≡◌, refl, sym, ap, subst, ◌∙◌}
use Prim.Native.Nat.{ℕ, zero, suc, ◌+◌, ◌≤◌, ◌<◌}
use Prim.Native.Char.{code}
use mathlib.Core.List.{List, [], ◌∷◌}
use mathlib.Core.Bool.{Bool, true, false, cond, ◌&&◌}
use native.Mathlib.Omega.{arith}
use lib.ListN.{length}
use lib.Dec.{eqb, leb}
use borrow.Author.Tests.{le-leb, eqb-true, leb-true}
use Rattle.seq.specs.declared.Span.{Span}
use Rattle.seq.specs.Bytes.{is, byte_at}
use Rattle.seq.proofs.Logic.{split, and_left, and_right, and-false}
use Rattle.lex.specs.declared.Mark.{Mark}
use Rattle.lex.specs.declared.Mark.TheVariants.{Item, End, Neither}
use Rattle.lex.specs.Lex.{and_then, space, close_list, first, next}
use Rattle.lex.proofs.Chain.{Chain, chain-good, chain-starts, chain-follows, chain-empty, chain-stops}
use Rattle.json_text.specs.Json.{max_bytes, follow, series, enclosed, value, list, value_at, is_rest, is_text}
use Rattle.json_text.proofs.Laws.{value-list, at-short}
use Rattle.elements.specs.Elements.{Items, Are, Not, span, after, on_to, on_mark, items, elements, inner_depth}
use Rattle.elements.specs.Elements.{whole, outer_in, outer, few, listed, at, blank}

-- ---- where elements are found
abbrev pub found : Items → Bool
found (Are ps e) = true
found Not = false

-- where a list ends
abbrev ended : Items → Option ℕ
ended (Are ps e) = Some e
ended Not = None

ended-after : (ps : List Span) (i : Items) → ended (after ps i) ≡ ended i
ended-after ps (Are us e) = refl
ended-after ps Not = refl

module _ (item : ℕ → Option ℕ) (s : List ℕ) where
  ended-mark : (f : ℕ) → ((a : ℕ) → ended (items item f s a) ≡ series item 93 f s a) → (m : Mark)
      → ended (on_mark m (items item f s)) ≡ follow m (series item 93 f s)
  ended-mark f h (Item a) = h a
  ended-mark f h (End e) = refl
  ended-mark f h Neither = refl

  items-series : (f a : ℕ) → ended (items item f s a) ≡ series item 93 f s a
  unfolding items series
  items-series zero a = refl
  items-series (suc f) a = go (items-series f) (item a)
    where
      go : ((b : ℕ) → ended (items item f s b) ≡ series item 93 f s b) → (r : Option ℕ)
          → ended (on_to r (λ e. after (span a e ∷ []) (on_mark (next 93 s e) (items item f s))))
          ≡ and_then r (λ e. follow (next 93 s e) (series item 93 f s))
      go h (Some e) = ended-after (span a e ∷ []) (on_mark (next 93 s e) (items item f s)) ∙ ended-mark f h (next 93 s e)
      go h None = refl

-- a list's elements end where the reader says that the list does
pub elements-end : (d : ℕ) (s : List ℕ) (i : ℕ) → ended (elements d s i) ≡ list (suc d) s i
unfolding elements list enclosed
elements-end d s i = ended-mark (value d s) s (length s) (items-series (value d s) s (length s)) (first 93 s i)

found-whole : (s : List ℕ) (i : Items) → found (whole s i) ≡ is_rest s (ended i)
found-whole s (Are ps e) = go (eqb (space s e) (length s))
  where
    go : (b : Bool) → found (cond b (Are ps e) Not) ≡ b
    go true = refl
    go false = refl
found-whole s Not = refl

-- elements are found exactly where the whole text is one JSON value (of 1 to 2,048 bytes, nested to depth 8) and that is a list
pub elements-found : (s : List ℕ) → found (outer s) ≡ (is "[" (byte_at s (space s 0)) && is_text s)
unfolding outer is_text value_at
elements-found s = split (leb (length s) max_bytes)
    (λ l. rw l (split (is "[" (byte_at s (space s 0)))
    (λ b. rw b (found-whole s (elements 7 s (space s 0 + 1)) ∙ ap (is_rest s) (ends b)))
    (λ b. rw b)))
    (λ l. rw l (sym (and-false (is "[" (byte_at s (space s 0))) false refl)))
  where
    ends : is "[" (byte_at s (space s 0)) ≡ true → ended (elements 7 s (space s 0 + 1)) ≡ value 8 s (space s 0)
    ends b = elements-end 7 s (space s 0 + 1) ∙ sym (value-list 8 s (space s 0) (byte_at s (space s 0)) refl (eqb-true _ _ b))

-- ---- what is found
-- The elements ps of s, whose list ends just before e.
pub record Found (s : List ℕ) (ps : List Span) (e : ℕ) : Type 0 where
  -- the text starts with a bracket, after white space
  pub opens : byte_at s (space s 0) ≡ code "["
  -- each element is a JSON value that ends where its span says
  pub values : (k : ℕ) → k < length ps → value_at inner_depth s (at k ps).from ≡ Some (at k ps).to
  -- the first element starts past the bracket and white space
  pub starts : 0 < length ps → first close_list s (space s 0 + 1) ≡ Item (at 0 ps).from
  -- each next one starts past white space, a comma and white space after the one before
  pub follows : (k : ℕ) → k + 1 < length ps → next close_list s (at k ps).to ≡ Item (at (k + 1) ps).from
  -- after the last one white space and the closing bracket stand
  pub stops : (k : ℕ) → k + 1 ≡ length ps → next close_list s (at k ps).to ≡ End e
  -- so they do past the opening bracket if there are none
  pub empty : length ps ≡ 0 → first close_list s (space s 0 + 1) ≡ End e
  -- and only white space to the end of the text
  pub rest : space s e ≡ length s

are-end : {ps qs : List Span} {d e : ℕ} → Are ps d ≡ Are qs e → d ≡ e
are-end h = cc

are-spans : {ps qs : List Span} {d e : ℕ} → Are ps d ≡ Are qs e → ps ≡ qs
are-spans h = cc

not-are : {A : Type 0} {ps : List Span} {e : ℕ} → Not ≡ Are ps e → A
not-are h = let z : ◌≡◌ {A = ℕ} 0 1 = cc in absurd (omega arith)

abbrev pub start : Span → ℕ
start p = p.from

abbrev pub stop : Span → ℕ
stop p = p.to

-- from the mark m on
module _ (item : ℕ → Option ℕ) (s : List ℕ) (e : ℕ) where
  abbrev pub IsItem : Span → Type 0
  IsItem p = item p.from ≡ Some p.to

  abbrev pub Ordered : Mark → List Span → Type 0
  Ordered m ps = Chain start stop IsItem (next close_list s) e m ps

  ordered-cons : (a d : ℕ) → item a ≡ Some d → (i : Items) → ((qs : List Span) → i ≡ Are qs e → Ordered (next close_list s d) qs) → (ps : List Span)
      → after (span a d ∷ []) i ≡ Are ps e → Ordered (Item a) ps
  ordered-cons a d q (Are qs d') ih ps h =
      subst (λ (l : List Span). Ordered (Item a) l) (are-spans h) (refl, q, ih qs (ap (λ (n : ℕ). Are qs n) (are-end h)))
  ordered-cons a d q Not ih ps h = not-are h

  ordered_end : (d : ℕ) (ps : List Span) → Are [] d ≡ Are ps e → Ordered (End d) ps
  ordered_end d ps h = subst (λ (l : List Span). Ordered (End d) l) (are-spans h) (ap End (are-end h))

  ordered : (f : ℕ) (m : Mark) (ps : List Span) → on_mark m (items item f s) ≡ Are ps e → Ordered m ps
  unfolding items
  ordered zero (Item a) ps h = not-are h
  ordered zero (End d) ps h = ordered_end d ps h
  ordered zero Neither ps h = not-are h
  ordered (suc f) (End d) ps h = ordered_end d ps h
  ordered (suc f) Neither ps h = not-are h
  ordered (suc f) (Item a) ps h = go (ordered f) (item a) refl h
    where
      go : ((m : Mark) (qs : List Span) → on_mark m (items item f s) ≡ Are qs e → Ordered m qs) → (r : Option ℕ) → item a ≡ r
          → on_to r (λ d. after (span a d ∷ []) (on_mark (next close_list s d) (items item f s))) ≡ Are ps e → Ordered (Item a) ps
      go ih (Some d) q h = ordered-cons a d q (on_mark (next close_list s d) (items item f s)) (ih (next close_list s d)) ps h
      go ih None q h = not-are h

-- what the definition of `outer_in` tests
whole_is : (s : List ℕ) (i : Items) (ps : List Span) (e : ℕ) → whole s i ≡ Are ps e → (i ≡ Are ps e) × (space s e ≡ length s)
whole_is s (Are qs d) ps e h = go (eqb (space s d) (length s)) refl h
  where
    go : (b : Bool) → eqb (space s d) (length s) ≡ b → cond b (Are qs d) Not ≡ Are ps e → (Are qs d ≡ Are ps e) × (space s e ≡ length s)
    go true t h = (h, ap (λ (n : ℕ). space s n) (sym (are-end h)) ∙ eqb-true (space s d) (length s) t)
    go false t h = not-are h
whole_is s Not ps e h = not-are h

outer-is : (limit : ℕ) (s : List ℕ) (ps : List Span) (e : ℕ) → outer_in limit s ≡ Are ps e
    → ((leb (length s) limit && is "[" (byte_at s (space s 0))) ≡ true) × (whole s (elements inner_depth s (space s 0 + 1)) ≡ Are ps e)
outer-is limit s ps e = go (leb (length s) limit && is "[" (byte_at s (space s 0)))
  where
    go : (b : Bool) → cond b (whole s (elements inner_depth s (space s 0 + 1))) Not ≡ Are ps e
        → (b ≡ true) × (whole s (elements inner_depth s (space s 0 + 1)) ≡ Are ps e)
    go true h = (refl, h)
    go false h = not-are h

-- What is found in a text of so many bytes at most.
pub record Listed (limit : ℕ) (s : List ℕ) (ps : List Span) (e : ℕ) : Type 0 where
  -- a text over the limit has no elements
  pub short : length s ≤ limit
  pub opens : byte_at s (space s 0) ≡ code "["
  -- the elements in order, from just past the opening bracket on
  pub ordered : Ordered (value inner_depth s) s e (first close_list s (space s 0 + 1)) ps
  pub rest : space s e ≡ length s

pub listed-in : (limit : ℕ) (s : List ℕ) (ps : List Span) (e : ℕ) → outer_in limit s ≡ Are ps e → Listed limit s ps e
unfolding elements
listed-in limit s ps e h =
    let o = outer-is limit s ps e h in
    let w = whole_is s (elements inner_depth s (space s 0 + 1)) ps e o.1 in
    record {
      short = leb-true (length s) limit (and_left _ _ o.0);
      opens = eqb-true _ _ (and_right (leb (length s) limit) _ o.0);
      ordered = ordered (value inner_depth s) s e (length s) (first close_list s (space s 0 + 1)) ps w.0;
      rest = w.1;
    }

pub elements-exact : (s : List ℕ) (ps : List Span) (e : ℕ) → outer s ≡ Are ps e → Found s ps e
unfolding outer
elements-exact s ps e h =
    let o = listed-in max_bytes s ps e h in
    let m = first close_list s (space s 0 + 1) in
    let c = o.ordered in
    let is-value = IsItem (value inner_depth s) s e in
    record {
      opens = o.opens;
      values = λ k l. at-short inner_depth s (at k ps).from o.short ∙ chain-good start stop is-value (next close_list s) e blank m ps c k l;
      starts = chain-starts start stop is-value (next close_list s) e blank m ps c;
      follows = chain-follows start stop is-value (next close_list s) e blank m ps c;
      stops = chain-stops start stop is-value (next close_list s) e blank m ps c;
      empty = chain-empty start stop is-value (next close_list s) e blank m ps c;
      rest = o.rest;
    }

-- the elements that `split` hands out, where it hands out any: all of them
pub listed-exact : (s : List ℕ) → 0 < length (listed s) → (e : ℕ) × Found s (listed s) e
unfolding listed
listed-exact s = go (outer s) refl
  where
    go : (i : Items) → outer s ≡ i → 0 < length (few i) → (e : ℕ) × Found s (few i) e
    go (Are ps e) h = split (leb (length ps) 7) (λ b. rw b (λ l. (e, elements-exact s ps e h))) (λ b. rw b (λ l. absurd (omega arith)))
    go Not h = λ l. absurd (omega arith)

-- and it hands out those of every list that has 1 to 7
pub listed-all : (s : List ℕ) (ps : List Span) (e : ℕ) → outer s ≡ Are ps e → length ps ≤ 7 → listed s ≡ ps
unfolding listed
listed-all s ps e h l = rw (h, le-leb (length ps) 7 l)
