-- An integer as the code reads it: a number of 64 bits.
use Rattle.std.specs.Prelude.{ℕ, ◌≤◌, ◌<◌, Bool, cond, ◌||◌, ltb, Option, Some, None}
use Rattle.seq.specs.Bytes.{is}
use Rattle.values.specs.Read.{Read}
use Rattle.values.specs.Read.Read.{Gives, Not}
use Rattle.to_msgpack.specs.declared.Integer.{Integer}

-- what begins a fraction or an exponent
abbrev pub goes_on : ℕ → Bool
goes_on b = is "." b || (is "e" b || is "E" b)

-- a number, if it is below 2^64
unfoldable pub bounded : ℕ → Option ℕ
bounded n = cond {A = Option ℕ} (ltb n 0x10000000000000000) (Some n) None

-- an integer and the place past it
abbrev pub ending : ℕ → ℕ → Integer
ending n e = record { value = n; end = e }

-- an integer without its sign, if it is below 2^64
abbrev pub small : Read ℕ → Option Integer
small (Gives n e) = cond {A = Option Integer} (ltb n 0x10000000000000000) (Some (ending n e)) None
small Not = None

-- it ends behind its place and within a text of n bytes
abbrev pub Ends : ℕ → ℕ → Option Integer → Type 0
Ends at n (Some i) = (at < i.end) × (i.end ≤ n)
Ends at n None = Unit {0}
