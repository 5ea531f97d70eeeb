-- Texts that JSON writes as they are (RFC 8259, section 7), and commas.
use Rattle.std.specs.Prelude.{ℕ, List, [], ◌∷◌, Bool, not, cond, ◌||◌, ltb}
use Prim.Native.Char.{code}
use Rattle.seq.specs.Lists.{every}
use Rattle.strings.specs.Strings.{is_marked}

-- a byte that is not written as it is
abbrev pub is_escaped : ℕ → Bool
is_escaped b = is_marked b || ltb b 0x20

-- a text without such a byte
abbrev pub is_bare : List ℕ → Bool
is_bare t = every (λ b. not (is_escaped b)) t

-- a comma, where more stands before
unfoldable pub comma : Bool → List ℕ
comma more = cond more (code "," ∷ []) []
