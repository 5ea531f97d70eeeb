-- The URI rule a second time (PROTOCOL, "URI texts"): in terms of bytes and of dots, with no components and no test. It shares no
-- definition with specs/Uri.antt. words/specs/Meaning.antt says which test passes which texts; proofs/Rule.antt proves it.
use Rattle.std.specs.Prelude.{ℕ, ◌≤◌, ◌<◌, List, ◌++◌, ◌⊎◌, ◌≡◌, length}
use Prim.Native.Char.{code}
use Rattle.seq.specs.Lists.{All}
use Rattle.seq.specs.Bytes.{chars}
use Rattle.uri.specs.declared.Policy.{Policy}
use Rattle.uri.specs.declared.Policy.TheVariants.{Exact, Prefix, Wildcard}

-- above hex 20, and not the number sign
abbrev pub Clean : ℕ → Type 0
Clean b = (32 < b) × ¬ (b ≡ code "#")

-- ---- where dots stand: a component is empty where one is first, where one is last, and between two together
abbrev pub DotFirst : List ℕ → Type 0
DotFirst s = (t : List ℕ) × (s ≡ chars "." ++ t)

abbrev pub DotLast : List ℕ → Type 0
DotLast s = (t : List ℕ) × (s ≡ t ++ chars ".")

abbrev pub DotsTogether : List ℕ → Type 0
DotsTogether s = (a : List ℕ) × (b : List ℕ) × (s ≡ a ++ (chars ".." ++ b))

-- "In a prefix text only the last may be empty. In a wildcard text any may be empty."
abbrev pub Dots : Policy → List ℕ → Type 0
Dots Exact s = ¬ (DotFirst s) × ¬ (DotLast s) × ¬ (DotsTogether s)
Dots Prefix s = ¬ (DotFirst s) × ¬ (DotsTogether s)
Dots Wildcard s = Unit {0}

-- ---- texts
-- "A text has 1 to 128 bytes", all clean
abbrev pub UriText : Policy → List ℕ → Type 0
UriText p s = (1 ≤ length s) × (length s ≤ 128) × All Clean s × Dots p s

-- "the first component `wamp`": it is the text, or a dot follows it
abbrev pub Reserved : List ℕ → Type 0
Reserved s = (s ≡ chars "wamp") ⊎ ((t : List ℕ) × (s ≡ chars "wamp." ++ t))
