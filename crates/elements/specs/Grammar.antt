-- What the elements of a message's outer list are, by the grammar of RFC 8259 as sets of texts (json/specs/Grammar.antt). specs/Elements.antt
-- says the same as spans of the text; proofs/Grammar.antt proves that both agree.
use Rattle.std.specs.Prelude.{ℕ, ◌≤◌, List, length}
use Rattle.seq.specs.Lists.{All}
use Rattle.lex.specs.Grammar.{Language, ◌·◌, Ws}
use Rattle.json_text.specs.Grammar.{Array, Value}

-- one JSON list of these elements, of so many bytes at most, with optional white space around it. PROTOCOL, "Sizes": depth 8 in all, the
-- outer list being depth 1
abbrev pub ListIn : ℕ → List (List ℕ) → Language
ListIn limit es s = (length s ≤ limit) × All (Value 7) es × (Ws · Array es · Ws) s

-- a message taken in has at most 2,048 bytes
abbrev pub ListOf : List (List ℕ) → Language
ListOf es s = ListIn 2048 es s
