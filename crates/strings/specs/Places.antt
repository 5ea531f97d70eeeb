-- How the code goes through a string's text: byte by byte, from a place in what stands between the quotes.
use Rattle.std.specs.Prelude.{ℕ, ◌+◌, ◌*◌, ◌%◌, ◌<◌, List, [], ◌∷◌, true, not, cond, ◌&&◌, ◌⊎◌, ◌≡◌, length, take, drop, eqb}
use Rattle.seq.specs.Bytes.{is, byte_at}
use Rattle.utf8.specs.Table.{encoding}
use Rattle.strings.specs.declared.Undone.{Undone}
use Rattle.strings.specs.declared.Undone.TheVariants.{AsItIs, Kept}
use Rattle.strings.specs.Strings.{escape, undone}

-- the text from the character at a place on, of which k bytes were taken
abbrev pub rest : List ℕ → ℕ → ℕ → List ℕ
rest t at k = drop k (undone (drop at t))

-- k bytes were taken of the character at a place, and one is left
abbrev pub Within : List ℕ → ℕ → ℕ → Type 0
Within t at k = (k ≡ 0) ⊎ ((is "\\" (byte_at t at) ≡ true) × (k < length (encoding (escape (drop at t)).code)))

-- PROTOCOL, "URI texts": a text of more than 128 bytes is no URI, and 129 of its bytes tell so
abbrev pub most_kept : ℕ
most_kept = 129

abbrev pub kept : List ℕ → List ℕ
kept t = take most_kept t

-- the text that an answer of `undo` stands for: that between the quotes as it is, or what was stored
abbrev pub kept_in : List ℕ → List ℕ → Undone → List ℕ
kept_in t stored AsItIs = kept t
kept_in t stored (Kept n) = take n stored

-- how many bytes two have alike at their heads, before a backslash
unfoldable pub alike : List ℕ → List ℕ → ℕ
alike [] y = 0
alike (a ∷ x) [] = 0
alike (a ∷ x) (b ∷ y) = cond (eqb a b && not (is "\\" a)) (1 + alike x y) 0

-- a small number by which two texts are told apart where it differs
unfoldable pub mark_from : ℕ → List ℕ → ℕ
mark_from m [] = m
mark_from m (b ∷ t) = mark_from ((m * 251 + b) % 65536) t

abbrev pub mark_of : List ℕ → ℕ
mark_of t = mark_from 0 t
