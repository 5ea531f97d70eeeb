-- A buffer that texts for people are written into, one behind the other. What does not fit is left out.
use Rattle.std.specs.Prelude.{ℕ, ◌+◌, ◌-◌, List, ◌++◌, length, take, drop}

-- as much of a text as fits into a buffer from a place on
unfoldable pub fitting : List ℕ → ℕ → List ℕ → List ℕ
fitting buffer at text = take (length buffer - at) text

-- the place past what is written there
unfoldable pub after : List ℕ → ℕ → List ℕ → ℕ
after buffer at text = at + length (fitting buffer at text)

-- the buffer with it
unfoldable pub written : List ℕ → ℕ → List ℕ → List ℕ
written buffer at text = take at buffer ++ fitting buffer at text ++ drop (after buffer at text) buffer
