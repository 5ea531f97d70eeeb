-- Laws of matching, for loops that stand at a component of each of two texts. Assumes nothing.
use Prim.Native.Nat.{ℕ, ◌+◌, ◌-◌, ◌≤◌, ◌<◌}
use mathlib.Core.Bool.{Bool, true, false, not}
use mathlib.Core.List.{List, [], ◌∷◌}
use mathlib.Core.Path.{◌≡◌, refl, ◌∙◌}
use native.Mathlib.Omega.{arith}
use borrow.Author.Tests.{ltb-true, ltb-false}
use lib.Dec.{ltb}
use lib.ListN.{length, drop}
use lib.Seq.{take_all}
use Rattle.seq.specs.Lists.{is_empty, first_part}
use Rattle.seq.specs.Bytes.{same, text_of}
use Rattle.seq.proofs.Logic.{split, clash}
use Rattle.seq.proofs.Bytes.{same-long, same-eq, same_refl}
use Rattle.uri.specs.Uri.{is_dot, components, part_end}
use Rattle.uri.proofs.Laws.{components_at, at-start, at-past, at-step, part-empty, part_filled}
use Rattle.pattern.specs.declared.Row.{Row}
use Rattle.pattern.specs.Match.{starts_with, covers, fits_parts, counts, greater, beats_text, better_text}
use Rattle.pattern.specs.Choice.{row_text}
use Rattle.pattern.proofs.Counts.{wild-wild, literal-literal, wild-literal, literal-wild, more-none, none_any, greater-same}

-- ---- prefix
-- a longer text does not begin a URI
pub starts-long : (t u : List ℕ) → length u < length t → starts_with t u ≡ false
unfolding starts_with
starts-long t u h =
    let k : length u ≤ length t = omega arith in
    rw (take_all (length t) u k) (same-long t u (λ e. omega arith))

-- ---- wildcard: which fits
-- the components from place i on fit those from place j on
abbrev pub fits_at : List ℕ → ℕ → List ℕ → ℕ → Bool
fits_at t i u j = fits_parts (components_at t i) (components_at u j)

pub fits-start : (t u : List ℕ) → fits_parts (components t) (components u) ≡ fits_at t 0 u 0
fits-start t u = rw (at-start t, at-start u)

-- the text has a component left and the URI has none
pub fits-short : (t u : List ℕ) (i j : ℕ) → i ≤ length t → length u < j → fits_at t i u j ≡ false
unfolding fits_parts
fits-short t u i j h k = rw (at-step t i h, at-past u j k)

-- the text has none left
fits_out : (us : List (List ℕ)) → fits_parts [] us ≡ is_empty us
unfolding fits_parts
fits_out [] = refl
fits_out (u ∷ us) = refl

empty-at : (u : List ℕ) (j : ℕ) → is_empty (components_at u j) ≡ ltb (length u) j
empty-at u j =
    split (ltb (length u) j)
    (λ t. let h : length u < j = ltb-true _ _ t in rw (at-past u j h, t))
    (λ t. let h : j ≤ length u = ltb-false _ _ t in rw (at-step u j h, t))

pub fits-end : (t u : List ℕ) (i j : ℕ) → length t < i → fits_at t i u j ≡ ltb (length u) j
fits-end t u i j h = rw (at-past t i h) (fits_out (components_at u j) ∙ empty-at u j)

-- both have one, and it fits
pub fits-pass : (t u : List ℕ) (i j : ℕ) → i ≤ length t → j ≤ length u
    → covers (first_part is_dot (drop i t)) (first_part is_dot (drop j u)) ≡ true → fits_at t i u j ≡ fits_at t (part_end t i + 1) u (part_end u j + 1)
unfolding fits_parts
fits-pass t u i j h k e = rw (at-step t i h, at-step u j k, e)

-- ---- wildcard: which is better
-- the components from place i on beat those from place j on
abbrev pub beats_at : List ℕ → ℕ → List ℕ → ℕ → Bool
beats_at a i b j = greater (counts (components_at a i)) (counts (components_at b j))

pub beats-start : (a b : List ℕ) → beats_text a b ≡ beats_at a 0 b 0
unfolding beats_text
beats-start a b = rw (at-start a, at-start b)

pub beats-short : (a b : List ℕ) (i j : ℕ) → i ≤ length a → length b < j → beats_at a i b j ≡ true
beats-short a b i j h k = rw (at-step a i h, at-past b j k) (more-none _ _)

pub beats-end : (a b : List ℕ) (i j : ℕ) → length a < i → beats_at a i b j ≡ false
beats-end a b i j h = rw (at-past a i h) (none_any _)

module _ (a b : List ℕ) (i j : ℕ) (h : i ≤ length a) (k : j ≤ length b) where
  pub beats-lost : part_end a i ≡ i → (part_end b j ≡ j → ⊥) → beats_at a i b j ≡ false
  beats-lost e f = rw (at-step a i h, at-step b j k) (wild-literal _ _ _ _ (part-empty a i e) (part_filled b j f))

  pub beats-won : (part_end a i ≡ i → ⊥) → part_end b j ≡ j → beats_at a i b j ≡ true
  beats-won e f = rw (at-step a i h, at-step b j k) (literal-wild _ _ _ _ (part_filled a i e) (part-empty b j f))

  pub beats-wild : part_end a i ≡ i → part_end b j ≡ j → beats_at a i b j ≡ beats_at a (part_end a i + 1) b (part_end b j + 1)
  beats-wild e f = rw (at-step a i h, at-step b j k) (wild-wild _ _ _ _ (part-empty a i e) (part-empty b j f))

  pub beats-literal : (part_end a i ≡ i → ⊥) → (part_end b j ≡ j → ⊥) → beats_at a i b j ≡ beats_at a (part_end a i + 1) b (part_end b j + 1)
  beats-literal e f = rw (at-step a i h, at-step b j k) (literal-literal _ _ _ _ (part_filled a i e) (part_filled b j f))

-- ---- the winner
-- no text beats itself
pub beats-same : (a : List ℕ) → beats_text a a ≡ false
unfolding beats_text
beats-same a = greater-same _

-- so the winner's bytes tell which won
pub winner-tells : (a b : List ℕ) → not (same (better_text a b) a) ≡ beats_text b a
unfolding better_text
winner-tells a b =
    split (beats_text b a)
    (λ t.
    split (same b a)
    (λ s. let e : b ≡ a = same-eq b a s in clash t (rw e (beats-same a)))
    (λ s. rw (t, s)))
    (λ t. rw (t, same_refl a))

-- ---- rows
-- a row's text, read as a span of its bytes
pub row-text : (r : Row) → text_of r.text (record { from = 0; to = r.len }) ≡ row_text r
row-text r = let q : r.len - 0 ≡ r.len = omega arith in rw q
