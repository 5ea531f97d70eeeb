-- Which texts fit a URI, and which of two wildcard texts is better, a second time (PROTOCOL, "Matching"): in terms of the bytes and of the
-- components at each place, with no test and no count. words/specs/Meaning.antt says which definition means which; proofs/Fit.antt proves it.
use Rattle.std.specs.Prelude.{ℕ, ◌<◌, List, [], ◌↔◌, ◌⊎◌, ◌≡◌, length, get_or}
use Rattle.uri.specs.Uri.{components}

-- the component at a place
abbrev pub component : List ℕ → ℕ → List ℕ
component t k = get_or (components t) k []

-- "the same number of components, each empty or equal"
abbrev pub FitsEach : List ℕ → List ℕ → Type 0
FitsEach t u =
    (length (components t) ≡ length (components u))
    × ((k : ℕ) → k < length (components t) → (component t k ≡ []) ⊎ (component t k ≡ component u k))

-- at the first place where just one of the two has a wildcard, it is the second
abbrev pub OpensLater : List ℕ → List ℕ → Type 0
OpensLater a b =
    (k : ℕ) × (k < length (components a)) × ¬ (component a k ≡ []) × (component b k ≡ [])
    × ((j : ℕ) → j < k → (component a j ≡ []) ↔ (component b j ≡ []))
