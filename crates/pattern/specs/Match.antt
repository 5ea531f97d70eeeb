-- Matching of texts by policy (PROTOCOL, "Matching").
use Rattle.std.specs.Prelude.{ℕ, Bool, true, false, cond, ◌&&◌, ◌||◌, List, [], ◌∷◌, map, eqb, ltb, length, take}
use Rattle.seq.specs.Lists.{is_empty, parts}
use Rattle.seq.specs.Bytes.{same}
use Rattle.uri.specs.declared.Policy.{Policy}
use Rattle.uri.specs.declared.Policy.TheVariants.{Exact, Prefix, Wildcard}
use Rattle.uri.specs.Uri.{components}

-- ---- which texts fit a URI
-- "the text begins the URI, byte for byte"
unfoldable pub starts_with : List ℕ → List ℕ → Bool
starts_with t u = same t (take (length t) u)

-- a component that is "empty or equal"
unfoldable pub covers : List ℕ → List ℕ → Bool
covers c u = is_empty c || same c u

-- "same number of components, each empty or equal"
unfoldable pub fits_parts : List (List ℕ) → List (List ℕ) → Bool
fits_parts [] [] = true
fits_parts [] (u ∷ us) = false
fits_parts (c ∷ cs) [] = false
fits_parts (c ∷ cs) (u ∷ us) = covers c u && fits_parts cs us

-- "Exact: equal bytes. Prefix: .. Wildcard: .."
unfoldable pub fits_text : Policy → List ℕ → List ℕ → Bool
fits_text Exact t u = same t u
fits_text Prefix t u = starts_with t u
fits_text Wildcard t u = fits_parts (components t) (components u)

-- ---- which of two texts is better
-- "the counts of literal components before each wildcard and after the last"
unfoldable pub counts : List (List ℕ) → List ℕ
counts cs = map length (parts is_empty cs)

-- "left to right; the first larger count wins"
unfoldable pub greater : List ℕ → List ℕ → Bool
greater [] ys = false
greater (x ∷ xs) [] = true
greater (x ∷ xs) (y ∷ ys) = cond (eqb x y) (greater xs ys) (ltb y x)

-- of two wildcard texts, the first is better
unfoldable pub beats_text : List ℕ → List ℕ → Bool
beats_text a b = greater (counts (components a)) (counts (components b))

-- "The better of two candidate texts": the first where neither beats the other
unfoldable pub better_text : List ℕ → List ℕ → List ℕ
better_text a b = cond (beats_text b a) b a

-- of two texts of one policy, the first is better; "Among prefixes the most bytes win"
unfoldable pub wins_text : Policy → List ℕ → List ℕ → Bool
wins_text Exact a b = false
wins_text Prefix a b = ltb (length b) (length a)
wins_text Wildcard a b = beats_text a b
