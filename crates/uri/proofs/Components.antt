-- The spans of a text's components hold the components in order, and these are the one list of texts without dots that joined with dots is
-- the text. Assumes nothing.
use Prim.Native.Nat.{ℕ, suc, ◌+◌, ◌-◌, ◌≤◌, ◌<◌}
use mathlib.Core.List.{List, [], ◌∷◌, ◌++◌, map, append_assoc, append-nil, cons≢nil}
use mathlib.Core.Path.{◌≡◌, refl, sym, ap, ◌∙◌, subst}
use native.Mathlib.Omega.{arith}
use borrow.Author.Tests.{ne_eqb, eqb-true, eqb-false}
use lib.ListN.{length, length-append}
use lib.Seq.{take_at, drop_at}
use Rattle.seq.specs.declared.Span.{Span}
use Rattle.seq.specs.Lists.{first_part, rest_parts, All}
use Rattle.seq.specs.Bytes.{text_of}
use Rattle.seq.proofs.Logic.{split}
use Rattle.uri.specs.Uri.{is_dot, components, part_end}
use Rattle.uri.specs.Components.{spans_from, component_spans, joined, DotFree, ComponentsOf}
use Rattle.uri.proofs.Laws.{components_at, at-start, at-past, at-step}

-- ---- joined components
joined-cons : (x : ℕ) (c : List ℕ) (cs : List (List ℕ)) → joined ((x ∷ c) ∷ cs) ≡ x ∷ joined (c ∷ cs)
unfolding joined
joined-cons x c [] = refl
joined-cons x c (d ∷ cs) = refl

pub joined-components : (s : List ℕ) → joined (components s) ≡ s
unfolding joined first_part rest_parts
joined-components [] = refl
joined-components (x ∷ s) =
    split (is_dot x)
    (λ t. let e : x ≡ 46 = eqb-true x 46 t in rw (t, joined-components s, e))
    (λ t. rw t (joined-cons x (first_part is_dot s) (rest_parts is_dot s) ∙ ap (λ l. x ∷ l) (joined-components s)))

-- texts with the same components are one text
pub components-injective : (a b : List ℕ) → components a ≡ components b → a ≡ b
components-injective a b e = sym (joined-components a) ∙ ap joined e ∙ joined-components b

-- ---- the one list
first-free : (s : List ℕ) → DotFree (first_part is_dot s)
unfolding first_part
first-free [] = tt
first-free (x ∷ s) = split (is_dot x) (λ t. rw t tt) (λ t. rw t (eqb-false x 46 t, first-free s))

rest-free : (s : List ℕ) → All DotFree (rest_parts is_dot s)
unfolding rest_parts
rest-free [] = tt
rest-free (x ∷ s) = split (is_dot x) (λ t. rw t (first-free s, rest-free s)) (λ t. rw t (rest-free s))

-- a text without dots is its first component, whether it is all there is or a dot follows
first-all : (c : List ℕ) → DotFree c → first_part is_dot c ≡ c
unfolding first_part
first-all [] h = refl
first-all (x ∷ c) h = rw (ne_eqb x 46 h.0) (ap (λ l. x ∷ l) (first-all c h.1))

rest-empty : (c : List ℕ) → DotFree c → rest_parts is_dot c ≡ []
unfolding rest_parts
rest-empty [] h = refl
rest-empty (x ∷ c) h = rw (ne_eqb x 46 h.0) (rest-empty c h.1)

first-dot : (c s : List ℕ) → DotFree c → first_part is_dot (c ++ (46 ∷ s)) ≡ c
unfolding first_part
first-dot [] s h = refl
first-dot (x ∷ c) s h = rw (ne_eqb x 46 h.0) (ap (λ l. x ∷ l) (first-dot c s h.1))

rest-dot : (c s : List ℕ) → DotFree c → rest_parts is_dot (c ++ (46 ∷ s)) ≡ components s
unfolding rest_parts
rest-dot [] s h = refl
rest-dot (x ∷ c) s h = rw (ne_eqb x 46 h.0) (rest-dot c s h.1)

-- so texts without dots are the components of what they are joined to
components-joined : (c : List ℕ) (cs : List (List ℕ)) → All DotFree (c ∷ cs) → components (joined (c ∷ cs)) ≡ c ∷ cs
unfolding joined
components-joined c [] h = rw (first-all c h.0, rest-empty c h.0)
components-joined c (d ∷ cs) h =
    rw (first-dot c (joined (d ∷ cs)) h.0, rest-dot c (joined (d ∷ cs)) h.0) (ap (λ l. c ∷ l) (components-joined d cs h.1))

components-only : (cs : List (List ℕ)) (s : List ℕ) → ¬ (cs ≡ []) → All DotFree cs → joined cs ≡ s → cs ≡ components s
components-only [] s n h e = absurd (n refl)
components-only (c ∷ cs) s n h e = sym (components-joined c cs h) ∙ ap components e

-- ---- spans
-- the bytes of a component that stands after `pre` and before `post`
amid : (pre c post : List ℕ) → text_of (pre ++ (c ++ post)) (record { from = length pre; to = length pre + length c }) ≡ c
amid pre c post =
    let q : length pre + length c - length pre ≡ length c = omega arith in
    rw (q, drop_at pre (c ++ post) (length pre) refl) (take_at c post (length c) refl)

-- the spans of any components hold them, where these stand joined after `pre`
held : (cs : List (List ℕ)) (pre : List ℕ) → map (text_of (pre ++ joined cs)) (spans_from (length pre) cs) ≡ cs
unfolding joined spans_from
held [] pre = refl
held (c ∷ []) pre = ap (λ x. x ∷ [])
    (ap (λ l. text_of (pre ++ l) (record { from = length pre; to = length pre + length c })) (sym (append-nil c)) ∙ amid pre c [])
held (c ∷ (d ∷ cs)) pre =
    let post : List ℕ = joined (d ∷ cs) in
    let before : List ℕ = pre ++ (c ++ (46 ∷ [])) in
    let e : before ++ post ≡ pre ++ (c ++ (46 ∷ post)) = append_assoc pre (c ++ (46 ∷ [])) post
    ∙ ap (λ l. pre ++ l) (append_assoc c (46 ∷ []) post) in
    let n : length before ≡ length pre + length c + 1 = simp length-append (omega arith) in
    let first : text_of (pre ++ (c ++ (46 ∷ post))) (record { from = length pre; to = length pre + length c }) ≡ c = amid pre c (46 ∷ post) in
    let rest : map (text_of (before ++ post)) (spans_from (length before) (d ∷ cs)) ≡ d ∷ cs = held (d ∷ cs) before in
    let again : map (text_of (pre ++ (c ++ (46 ∷ post)))) (spans_from (length pre + length c + 1) (d ∷ cs)) ≡ d ∷ cs =
    subst (λ x. map (text_of x) (spans_from (length pre + length c + 1) (d ∷ cs)) ≡ d ∷ cs) e
    (subst (λ m. map (text_of (before ++ post)) (spans_from m (d ∷ cs)) ≡ d ∷ cs) n rest) in
    cc

pub components-of : (s : List ℕ) → ComponentsOf s
unfolding component_spans
components-of s = record {
  spans = ap (λ l. map (text_of l) (spans_from 0 (components s))) (sym (joined-components s)) ∙ held (components s) [];
  whole = joined-components s;
  some = cons≢nil;
  dot_free = (first-free s, rest-free s);
  only = λ cs n h e. components-only cs s n h e;
}

-- ---- for loops that stand at place i
pub length-spans : (i : ℕ) (cs : List (List ℕ)) → length (spans_from i cs) ≡ length cs
unfolding spans_from
length-spans i [] = refl
length-spans i (c ∷ cs) = ap suc (length-spans (i + length c + 1) cs)

-- the spans of the components that start at i or after it
abbrev pub spans_at : List ℕ → ℕ → List Span
spans_at s i = spans_from i (components_at s i)

pub spans-start : (s : List ℕ) → component_spans s ≡ spans_at s 0
unfolding component_spans
spans-start s = ap (spans_from 0) (sym (at-start s))

pub spans-past : (s : List ℕ) (i : ℕ) → length s < i → spans_at s i ≡ []
unfolding spans_from
spans-past s i h = rw (at-past s i h)

pub spans_step : (s : List ℕ) (i : ℕ) → i ≤ length s → spans_at s i ≡ record { from = i; to = part_end s i } ∷ spans_at s (part_end s i + 1)
unfolding spans_from part_end
spans_step s i h = rw (at-step s i h)
