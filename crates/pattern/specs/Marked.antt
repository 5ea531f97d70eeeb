-- The marked cases M1 to M11 of PROTOCOL ("Matching") as one table.
use Rattle.std.specs.Prelude.{ℕ, ◌-◌, Bool, true, false, List, [], ◌∷◌, ◌++◌, eqb, length, replicate}
use Rattle.std.specs.Bool.{beq}
use Rattle.seq.specs.Bytes.{chars}
use Rattle.uri.specs.declared.Policy.{Policy}
use Rattle.uri.specs.declared.Policy.TheVariants.{Exact, Prefix, Wildcard}
use Rattle.uri.specs.Uri.{longest}
use Rattle.pattern.specs.declared.Row.{Row}
use Rattle.pattern.specs.Match.{fits_text}
use Rattle.pattern.specs.Choice.{chosen}

-- a row with this number, policy and text, held by nobody
abbrev pub row : ℕ → Policy → List ℕ → Row
row n p t = record { number = n; policy = p; holders = replicate 8 false; len = length t; text = t ++ replicate (longest - length t) 0 }

-- rows, a URI and the number of the row chosen, 0 for none; or a policy, a text, a URI and whether it fits
pub data Case : Type 0 where
  chooses : List Row → List ℕ → ℕ → Case
  fits : Policy → List ℕ → List ℕ → Bool → Case

-- a case agrees with the matching rules
unfoldable pub right : Case → Bool
right (chooses rows u n) = eqb (chosen rows u).number n
right (fits p t u b) = beq (fits_text p t u) b

-- the rows of the cases: "with 1 .. exact"
abbrev pub exact_rows : List Row
exact_rows = row 1 Exact (chars "a1.b2.c3.d4.e55") ∷ []

-- "2 .., 3 .. prefix"
abbrev pub prefix_rows : List Row
prefix_rows = row 2 Prefix (chars "a1.b2.c3") ∷ row 3 Prefix (chars "a1.b2.c3.d4") ∷ []

-- "4 .., 5 .., 6 .., 7 .. wildcard"
abbrev pub wildcard_rows : List Row
wildcard_rows =
    row 4 Wildcard (chars "a1.b2..d4.e5")
    ∷ row 5 Wildcard (chars "a1.b2.c3..e5")
    ∷ row 6 Wildcard (chars "a1.b2..d4.e5..g7")
    ∷ row 7 Wildcard (chars "a1.b2..d4..f6.g7")
    ∷ []

-- all seven
abbrev pub all_rows : List Row
all_rows = exact_rows ++ (prefix_rows ++ wildcard_rows)

-- M1 to M11 in order; M5 is 3, where the source says 5, "overlooking that 2 and 3 fit"
unfoldable pub marked : List Case
marked =
    chooses all_rows (chars "a1.b2.c3.d4.e55") 1
    ∷ chooses all_rows (chars "a1.b2.c3.d98.e74") 2
    ∷ chooses all_rows (chars "a1.b2.c3.d4.e325") 3
    ∷ chooses all_rows (chars "a1.b2.c55.d4.e5") 4
    ∷ chooses all_rows (chars "a1.b2.c3.d4.e5") 3
    ∷ chooses (exact_rows ++ wildcard_rows) (chars "a1.b2.c3.d4.e5") 5
    ∷ chooses all_rows (chars "a1.b2.c88.d4.e5.f6.g7") 6
    ∷ chooses all_rows (chars "a2.b2.c2.d2.e2") 0
    ∷ fits Prefix (chars "com.myapp.myobject1") (chars "com.myapp.myobject1-mysubobject1") true
    ∷ fits Prefix (chars "com.myapp.myobject1") (chars "com.myapp.myobject") false
    ∷ fits Wildcard (chars "com.myapp..myprocedure1") (chars "com.myapp.myobject1.myprocedure1.mysubprocedure1") false
    ∷ []
