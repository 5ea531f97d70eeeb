-- A wildcard text beside a URI (PROTOCOL, "Matching"): the bytes that they have in common, and the text's empty components.
use Rattle.std.specs.Prelude.{ℕ, zero, suc, Bool, true, cond, ◌&&◌, List, [], ◌∷◌, eqb, get_or}
use Rattle.uri.specs.Uri.{is_dot}
use Rattle.uri.specs.Components.{is_end}

-- how many bytes two texts have in common from their starts on
unfoldable pub shared : List ℕ → List ℕ → ℕ
shared [] b = 0
shared (x ∷ a) [] = 0
shared (x ∷ a) (y ∷ b) = cond (eqb x y) (suc (shared a b)) 0

-- a component starts at the place: the text does, or a dot stands before it
unfoldable pub is_start : List ℕ → ℕ → Bool
is_start t zero = true
is_start t (suc k) = is_dot (get_or t k 0)

-- an empty component stands at the place
unfoldable pub is_open : List ℕ → ℕ → Bool
is_open t at = is_end t at && is_start t at
