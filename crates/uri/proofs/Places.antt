-- Laws of a text that is split: its ends tell its spans, and how many they are. Assumes nothing.
use Prim.Native.Nat.{ℕ, zero, suc, ◌+◌, ◌-◌, ◌*◌, ◌≤◌, ◌<◌}
use mathlib.Core.Bool.{Bool, true, false, cond, not, ◌&&◌}
use mathlib.Core.List.{List, [], ◌∷◌, map, cons≢nil}
use mathlib.Core.Path.{◌≡◌, refl, sym, ap, ◌∙◌}
use native.Mathlib.Omega.{arith}
use native.Mathlib.Numerals.{add-one}
use borrow.Author.Tests.{lt-ltb, le-ltb, ltb-true, ltb-false, leb-true, leb-false}
use lib.Dec.{eqb, leb, ltb}
use lib.ListN.{length, take, drop, get_or, set, replicate, drop_of_length-le, length-append, length-drop, length-map}
use lib.Seq.{take_all, take_at, length-take-le, drop-cons, get_or-drop, drop-drop}
use Rattle.std.specs.List.{prefix_len}
use Rattle.seq.specs.declared.Span.{Span}
use Rattle.seq.specs.Lists.{every, is_empty, first_part, rest_parts}
use Rattle.seq.proofs.Logic.{split, clash, and_left, and_right}
use Rattle.seq.proofs.Loops.{filled_to, filled_more, map-at}
use Rattle.uri.specs.Uri.{is_dot, components, part_end, longest, clean, filled, components_filled, valid_text, valid_called}
use Rattle.uri.specs.Components.{spans_from, component_spans, most_components, spans_to, EndsOf, ends_before, end_at, joined, Splitting}
use Rattle.uri.proofs.Laws.{end-stop, end-go, end-past, end_short}
use Rattle.uri.proofs.Uses.{short-called}
use Rattle.uri.proofs.Components.{joined-components, length-spans, spans_at, spans-start, spans-past, spans_step}

-- ---- a component's end, from any place in it
within : (s : List ℕ) (d p : ℕ) → p + d ≤ part_end s p → part_end s (p + d) ≡ part_end s p
within s zero p h = let e : p + 0 ≡ p = omega arith in rw e
within s (suc d) p h =
    let here : p < length s = split (ltb p (length s)) (λ t. ltb-true _ _ t)
    (λ t. absurd (omega (arith, end-past s p (ltb-false _ _ t)))) in
    let on : part_end s p ≡ part_end s (p + 1) = split (is_dot (get_or s p 0))
    (λ t. absurd (omega (arith, end-stop s p here t)))
    (λ t. end-go s p here t) in
    let e : p + suc d ≡ p + 1 + d = omega arith in
    rw e (within s d (p + 1) (omega (arith, on)) ∙ sym on)

pub end-within : (s : List ℕ) (p at : ℕ) → p ≤ at → at ≤ part_end s p → part_end s at ≡ part_end s p
end-within s p at h k =
    let e : p + (at - p) ≡ at = omega arith in
    ap (part_end s) (sym e) ∙ within s (at - p) p (omega arith)

-- how many ends stand before a place, in the library's word
pub before-prefix : (at : ℕ) (ends : List ℕ) → ends_before at ends ≡ prefix_len (λ to. not (leb at to)) ends
unfolding ends_before
before-prefix at [] = refl
before-prefix at (to ∷ ends) = front (leb at to) _ _ (before-prefix at ends)
  where
    front : (b : Bool) (m n : ℕ) → m ≡ n → cond b 0 (suc m) ≡ cond (not b) (1 + n) 0
    front true m n e = refl
    front false m n e = omega (arith, e)

-- ---- spans, and their ends
abbrev pub ends : List Span → List ℕ
ends ps = map (λ p. p.to) ps

pub spans-ends : (n p : ℕ) (cs : List (List ℕ)) → spans_to p (take n (ends (spans_from p cs))) ≡ take n (spans_from p cs)
unfolding spans_from spans_to
spans-ends zero p cs = refl
spans-ends (suc n) p [] = refl
spans-ends (suc n) p (c ∷ cs) = ap (λ l. record { from = p; to = p + length c } ∷ l) (spans-ends n (p + length c + 1) cs)

length-told : (p : ℕ) (es : List ℕ) → length (spans_to p es) ≡ length es
unfolding spans_to
length-told p [] = refl
length-told p (e ∷ es) = ap suc (length-told (e + 1) es)

take-taken : {A : Type 0} (n : ℕ) (xs : List A) → take (length (take n xs)) xs ≡ take n xs
take-taken zero xs = refl
take-taken (suc n) [] = refl
take-taken (suc n) (x ∷ xs) = ap (λ l. x ∷ l) (take-taken n xs)

-- what `split` tells are the ends of the first components
pub ends_of : (s es : List ℕ) (n : ℕ) → spans_to 0 es ≡ take n (component_spans s) → EndsOf s es
ends_of s es n h =
    let l : length es ≡ length (take n (component_spans s)) = sym (length-told 0 es) ∙ ap length h in
    h ∙ sym (ap (λ k. take k (component_spans s)) l ∙ take-taken n (component_spans s))

-- ---- the ends of the components that start at p or after it
abbrev pub EndsFrom : List ℕ → ℕ → List ℕ → Type 0
EndsFrom s p es = spans_to p es ≡ take (length es) (spans_at s p)

pub ends-start : (s es : List ℕ) → EndsOf s es → EndsFrom s 0 es
ends-start s es h = h ∙ ap (take (length es)) (spans-start s)

ends-head : (s : List ℕ) (p e : ℕ) (es : List ℕ) → EndsFrom s p (e ∷ es) → (p ≤ length s) × (e ≡ part_end s p) × EndsFrom s (e + 1) es
unfolding spans_to
ends-head s p e es h =
    split (leb p (length s))
    (λ t.
    let l : p ≤ length s = leb-true _ _ t in
    let q = rw (spans_step s p l) at h in
    let none : Span = record { from = 0; to = 0 } in
    let same : e ≡ part_end s p = ap (λ (x : Span). x.to) (ap (λ l. get_or l 0 none) q) in
    (l, same, ap (drop 1) q ∙ ap (λ k. take (length es) (spans_at s (k + 1))) (sym same)))
    (λ t. absurd (cons≢nil (rw (spans-past s p (leb-false _ _ t)) at h)))

-- each is a place of the text
ends-short : (s : List ℕ) (p : ℕ) (es : List ℕ) → EndsFrom s p es → (k : ℕ) → k < length es → get_or es k 0 ≤ length s
ends-short s p [] h k l = absurd (omega arith)
ends-short s p (e ∷ es) h zero l =
    let q = ends-head s p e es h in
    omega (arith, q.1, end_short s p q.0)
ends-short s p (e ∷ es) h (suc k) l = ends-short s (e + 1) es (ends-head s p e es h).2 k (omega arith)

pub told-short : (s es : List ℕ) → EndsOf s es → (k : ℕ) → k < length es → get_or es k 0 ≤ length s
told-short s es h = ends-short s 0 es (ends-start s es h)

-- past the ends that stand before a place the next is the end of the component at it, and those left are again ends
pub record Reach (s es : List ℕ) (at k : ℕ) : Type 0 where
  pub told : end_at s es k at ≡ part_end s at
  pub after : (p : ℕ) × (p ≤ at) × EndsFrom s p (drop k es)

end-here : (s : List ℕ) (e : ℕ) (es : List ℕ) (at : ℕ) → end_at s (e ∷ es) 0 at ≡ e
unfolding end_at
end-here s e es at = rw (lt-ltb 0 (length (e ∷ es)) (omega arith))

end-next : (s : List ℕ) (e : ℕ) (es : List ℕ) (m at : ℕ) → end_at s (e ∷ es) (suc m) at ≡ end_at s es m at
unfolding end_at
end-next s e es m at =
    split (ltb m (length es))
    (λ t. let q : m < length es = ltb-true _ _ t in rw (t, lt-ltb (suc m) (length (e ∷ es)) (omega arith)))
    (λ t. let q : length es ≤ m = ltb-false _ _ t in rw (t, le-ltb (suc m) (length (e ∷ es)) (omega arith)))

reach-from : (s es : List ℕ) (p at : ℕ) → EndsFrom s p es → p ≤ at → Reach s es at (ends_before at es)
unfolding ends_before end_at
reach-from s [] p at h k = record { told = refl; after = (p, k, h) }
reach-from s (e ∷ es) p at h k =
    let q = ends-head s p e es h in
    split (leb at e)
    (λ t.
    let same : part_end s at ≡ part_end s p = end-within s p at k (omega (arith, leb-true at e t, q.1)) in
    rw t (record { told = end-here s e es at ∙ q.1 ∙ sym same; after = (p, k, h) }))
    (λ t.
    let r = reach-from s es (e + 1) at q.2 (omega (arith, leb-false at e t)) in
    rw t (record { told = end-next s e es (ends_before at es) at ∙ r.told; after = r.after }))

-- the same where the first k were passed before
below : (n k m : ℕ) → k ≤ n → ltb (k + m) n ≡ ltb m (n - k)
below n k m h =
    split (ltb m (n - k))
    (λ t. let q : m < n - k = ltb-true _ _ t in lt-ltb (k + m) n (omega arith) ∙ sym t)
    (λ t. let q : n - k ≤ m = ltb-false _ _ t in le-ltb (k + m) n (omega arith) ∙ sym t)

pub reach : (s es : List ℕ) (k p at : ℕ) → k ≤ length es → EndsFrom s p (drop k es) → p ≤ at
    → Reach s es at (k + ends_before at (drop k es))
unfolding end_at
reach s es k p at l h q =
    let r = reach-from s (drop k es) p at h q in
    let m = ends_before at (drop k es) in
    record {
      told = rw (below (length es) k m l, ← length-drop k es, ← get_or-drop k es m 0) r.told;
      after = (r.after.0, r.after.1, rw (← drop-drop m k es) r.after.2);
    }

-- they are no more than the ends
pub before-most : (at : ℕ) (es : List ℕ) → ends_before at es ≤ length es
unfolding ends_before
before-most at [] = omega arith
before-most at (e ∷ es) = split (leb at e) (λ t. rw t (omega arith)) (λ t. rw t (omega (arith, before-most at es)))

-- ---- for the loop that splits, with `count` ends told and the next component at a place
pub record Filled (s places : List ℕ) (count at : ℕ) : Type 0 where
  pub told : places ≡ filled_to most_components 0 (ends (component_spans s)) count
  pub left : drop count (component_spans s) ≡ spans_at s at
  pub inside : count ≤ length (component_spans s)

pub filled-start : (s : List ℕ) → Filled s (replicate 129 0) 0 0
filled-start s = record { told = refl; left = spans-start s; inside = omega arith }

next-left : (xs : List Span) (n : ℕ) (p : Span) (ps : List Span) → drop n xs ≡ p ∷ ps
    → (n < length xs) × (get_or xs n p ≡ p) × (drop (n + 1) xs ≡ ps)
next-left xs n p ps h =
    split (ltb n (length xs))
    (λ t.
    let l : n < length xs = ltb-true _ _ t in
    let q = sym (drop-cons xs n p l) ∙ h in
    (l, ap (λ l. get_or l 0 p) q, ap (λ m. drop m xs) (add-one n) ∙ ap (drop 1) q))
    (λ t. absurd (cons≢nil (sym h ∙ drop_of_length-le xs (ltb-false _ _ t))))

pub filled-step : (s places : List ℕ) (count at e : ℕ) → Filled s places count at → at ≤ length s → count < 129 → e ≡ part_end s at
    → Filled s (set places count e) (count + 1) (e + 1)
filled-step s places count at e f h k q =
    let here : Span = record { from = at; to = part_end s at } in
    let n = next-left (component_spans s) count here (spans_at s (part_end s at + 1)) (f.left ∙ spans_step s at h) in
    let l : count < length (ends (component_spans s)) = rw (length-map (component_spans s) (λ p. p.to)) n.0 in
    let to : get_or (ends (component_spans s)) count here.to ≡ e = map-at (λ p. p.to) here (component_spans s) count n.0 ∙ ap (λ p. p.to) n.1 ∙ sym q in
    record {
      told = ap (λ l. set l count e) f.told ∙ ap (set (filled_to most_components 0 (ends (component_spans s)) count) count) (sym to)
          ∙ filled_more most_components 0 here.to (ends (component_spans s)) count l k;
      left = n.2 ∙ ap (λ m. spans_at s (m + 1)) (sym q);
      inside = omega (arith, n.0);
    }

-- those told are the first ones
told-first : (s places : List ℕ) (count at : ℕ) → Filled s places count at → spans_to 0 (take count places) ≡ take count (component_spans s)
unfolding component_spans
told-first s places count at f =
    let es : List ℕ = ends (component_spans s) in
    let l : count ≤ length es = rw (length-map (component_spans s) (λ p. p.to)) f.inside in
    let front : take count places ≡ take count es = ap (take count) f.told ∙ take_at (take count es) _ count (length-take-le count es l) in
    ap (spans_to 0) front ∙ spans-ends count 0 (components s)

-- they are all; or as many as there are places
pub filled-past : (s places : List ℕ) (count at : ℕ) → Filled s places count at → count ≤ 129 → length s < at
    → spans_to 0 (take count places) ≡ take most_components (component_spans s)
filled-past s places count at f h k =
    let none : length (component_spans s) - count ≡ 0 = sym (length-drop count (component_spans s)) ∙ ap length (f.left ∙ spans-past s at k) in
    told-first s places count at f
    ∙ (take_all count (component_spans s) (omega arith) ∙ sym (take_all most_components (component_spans s) (omega arith)))

pub filled-most : (s places : List ℕ) (count at : ℕ) → Filled s places count at → count ≡ 129
    → spans_to 0 (take count places) ≡ take most_components (component_spans s)
filled-most s places count at f e = told-first s places count at f ∙ ap (λ n. take n (component_spans s)) e

-- ---- how many components a text has
rest-most : (s : List ℕ) → length (rest_parts is_dot s) ≤ length s
unfolding rest_parts
rest-most [] = omega arith
rest-most (x ∷ s) = split (is_dot x) (λ t. rw t (omega (arith, rest-most s))) (λ t. rw t (omega (arith, rest-most s)))

most : (s : List ℕ) → length (components s) ≤ length s + 1
most s = omega (arith, rest-most s)

spans-most : (s : List ℕ) → length (component_spans s) ≤ length s + 1
unfolding component_spans
spans-most s = omega (arith, length-spans 0 (components s), most s)

-- where none is empty, each has a byte and, but for the last, a dot
filled-length : (c : List ℕ) → not (is_empty c) ≡ true → 1 ≤ length c
filled-length [] e = clash e refl
filled-length (x ∷ c) e = omega arith

twice : (c : List ℕ) (cs : List (List ℕ)) → every (λ c. not (is_empty c)) (c ∷ cs) ≡ true → 2 * length (c ∷ cs) ≤ length (joined (c ∷ cs)) + 1
unfolding joined every
twice c [] h = omega (arith, filled-length c (and_left (not (is_empty c)) _ h))
twice c (d ∷ cs) h =
    simp length-append
    (omega (arith, filled-length c (and_left (not (is_empty c)) _ h), twice d cs (and_right (not (is_empty c)) _ h)))

exact-filled : (s : List ℕ) → valid_called s ≡ true → every (λ c. not (is_empty c)) (components s) ≡ true
unfolding valid_called valid_text components_filled filled
exact-filled s h = and_right (not (eqb (length s) 0) && leb (length s) longest && clean s) (every (λ c. not (is_empty c)) (components s)) h

called : (s : List ℕ) → valid_called s ≡ true → length (components s) ≤ 64
called s h =
    let full : every (λ c. not (is_empty c)) (components s) ≡ true = exact-filled s h in
    let whole : length (joined (components s)) ≡ length s = ap length (joined-components s) in
    omega (arith, twice (first_part is_dot s) (rest_parts is_dot s) full, whole, short-called s h)

pub splitting : Splitting
splitting = record {
  most = most;
  whole = λ s h. take_all most_components (component_spans s) (omega (arith, spans-most s));
  called = called;
}
