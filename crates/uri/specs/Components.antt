-- Where a text's components stand, and what is claimed of it (PROTOCOL, "URI texts": "Components between dots").
use Rattle.std.specs.Prelude.{ℕ, suc, ◌+◌, ◌≤◌, Bool, true, cond, List, [], ◌∷◌, ◌++◌, map, ◌≡◌, eqb, leb, ltb, length, take, get_or}
use Rattle.seq.specs.declared.Span.{Span}
use Rattle.seq.specs.Lists.{All}
use Rattle.seq.specs.Bytes.{text_of}
use Rattle.uri.specs.declared.Ends.{Ends}
use Rattle.uri.specs.Uri.{dot, is_dot, components, part_end, longest, valid_called}

-- the spans of components of which the first starts at a place: each ends at its dot, and the next starts past that
unfoldable pub spans_from : ℕ → List (List ℕ) → List Span
spans_from from [] = []
spans_from from (c ∷ cs) = record { from = from; to = from + length c } ∷ spans_from (from + length c + 1) cs

-- the spans of a text's components, in order
unfoldable pub component_spans : List ℕ → List Span
component_spans s = spans_from 0 (components s)

-- a component ends at the place: its dot stands there, or it is the text's end
unfoldable pub is_end : List ℕ → ℕ → Bool
is_end s at = cond (ltb at (length s)) (is_dot (get_or s at 0)) (eqb at (length s))

-- ---- a text that is split
-- the most components that a URI text has: one more than its bytes, where all of them are dots
abbrev pub most_components : ℕ
most_components = longest + 1

-- the spans of components that end at these places, of which the first starts at a place, and each other one past the end before it
unfoldable pub spans_to : ℕ → List ℕ → List Span
spans_to from [] = []
spans_to from (to ∷ ends) = record { from = from; to = to } ∷ spans_to (to + 1) ends

-- the ends that a split tells
abbrev pub ends_told : Ends → List ℕ
ends_told x = take x.count x.places

-- these are the ends of the text's components: of all, or of the first ones
abbrev pub EndsOf : List ℕ → List ℕ → Type 0
EndsOf s ends = spans_to 0 ends ≡ take (length ends) (component_spans s)

-- how many of the ends, from the first on, stand before a place
unfoldable pub ends_before : ℕ → List ℕ → ℕ
ends_before at [] = 0
ends_before at (to ∷ ends) = cond (leb at to) 0 (suc (ends_before at ends))

-- the k-th end; where the ends are fewer, that of the component at a place
unfoldable pub end_at : List ℕ → List ℕ → ℕ → ℕ → ℕ
end_at s ends k at = cond (ltb k (length ends)) (get_or ends k 0) (part_end s at)

-- ---- what components are
-- components with a dot between each two
unfoldable pub joined : List (List ℕ) → List ℕ
joined [] = []
joined (c ∷ []) = c
joined (c ∷ (d ∷ cs)) = c ++ (dot ∷ joined (d ∷ cs))

-- no byte of it is the dot
abbrev pub DotFree : List ℕ → Type 0
DotFree c = All (λ b. ¬ (b ≡ dot)) c

-- the spans hold the components in order; and of all lists of texts, these are the one that has an element, whose texts have no dot, and
-- which joined with dots is the text
pub record ComponentsOf (s : List ℕ) : Type 0 where
  pub spans : map (text_of s) (component_spans s) ≡ components s
  pub whole : joined (components s) ≡ s
  pub some : ¬ (components s ≡ [])
  pub dot_free : All DotFree (components s)
  pub only : (cs : List (List ℕ)) → ¬ (cs ≡ []) → All DotFree cs → joined cs ≡ s → cs ≡ components s

-- what is claimed of splitting: how many components a text has, so that the ends told of a URI text are those of all its components
pub record Splitting : Type 0 where
  pub most : (s : List ℕ) → length (components s) ≤ length s + 1
  pub whole : (s : List ℕ) → length s ≤ longest → take most_components (component_spans s) ≡ component_spans s
  pub called : (s : List ℕ) → valid_called s ≡ true → length (components s) ≤ 64
