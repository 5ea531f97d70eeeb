-- What is claimed of the definitions of matching (PROTOCOL, "Matching"), for every list of rows and every URI.
use Rattle.std.specs.Prelude.{ℕ, ◌≤◌, ◌<◌, true, false, not, List, ◌↔◌, ◌≡◌, length, Some, None, Option}
use Rattle.uri.specs.declared.Policy.{Policy}
use Rattle.uri.specs.declared.Policy.TheVariants.{Exact, Prefix, Wildcard}
use Rattle.uri.specs.Uri.{components}
use Rattle.pattern.specs.declared.Row.{Row}
use Rattle.pattern.specs.Match.{fits_text, beats_text}
use Rattle.pattern.specs.Choice.{row_at, row_text, is_used, fits_row, candidate, choice, chosen}

-- ---- the row chosen
-- row k is in use with this policy and its text fits; no row is (past the last row stands an unused one)
abbrev pub Fits : List Row → Policy → List ℕ → ℕ → Type 0
Fits rows p u k = candidate p u (row_at rows k) ≡ true

abbrev pub NoneFits : List Row → Policy → List ℕ → Type 0
NoneFits rows p u = (k : ℕ) → candidate p u (row_at rows k) ≡ false

-- the text of row k
abbrev pub text_at : List Row → ℕ → List ℕ
text_at rows k = row_text (row_at rows k)

-- an exact row; else the prefix with the most bytes and never fewer components; else the wildcard that beats every other text; else nothing
pub data Right (rows : List Row) (u : List ℕ) : Option ℕ → Type 0 where
  exact : (k : ℕ) → Fits rows Exact u k → Right rows u (Some k)
  prefix :
      (k : ℕ) → NoneFits rows Exact u → Fits rows Prefix u k
      → ((j : ℕ) → Fits rows Prefix u j → length (text_at rows j) ≤ length (text_at rows k))
      → ((j : ℕ) → Fits rows Prefix u j → length (components (text_at rows j)) ≤ length (components (text_at rows k)))
      → Right rows u (Some k)
  wildcard :
      (k : ℕ) → NoneFits rows Exact u → NoneFits rows Prefix u → Fits rows Wildcard u k
      → ((j : ℕ) → Fits rows Wildcard u j → (text_at rows k ≡ text_at rows j → ⊥) → beats_text (text_at rows k) (text_at rows j) ≡ true)
      → Right rows u (Some k)
  nothing : NoneFits rows Exact u → NoneFits rows Prefix u → NoneFits rows Wildcard u → Right rows u None

-- ---- the order of the rows
-- each row of the first table occurs in the second
abbrev pub Within : List Row → List Row → Type 0
Within xs ys = (k : ℕ) → k < length xs → (j : ℕ) × (j < length ys) × (row_at ys j ≡ row_at xs k)

-- two tables of the same rows, in any order
pub record SameRows (xs ys : List Row) : Type 0 where
  pub there : Within xs ys
  pub back : Within ys xs

-- both choose nothing, or rows with the same policy and text
pub record SameChoice (xs ys : List Row) (u : List ℕ) : Type 0 where
  pub nothing : (choice xs u ≡ None) ↔ (choice ys u ≡ None)
  pub policy : (chosen xs u).policy ≡ (chosen ys u).policy
  pub text : row_text (chosen xs u) ≡ row_text (chosen ys u)

-- "text and policy distinct" ("State rules"): used rows that agree in both are one row
abbrev pub Distinct : List Row → Type 0
Distinct rows =
    (j k : ℕ) → is_used (row_at rows j) ≡ true → is_used (row_at rows k) ≡ true → (row_at rows j).policy ≡ (row_at rows k).policy
    → text_at rows j ≡ text_at rows k → row_at rows j ≡ row_at rows k

-- ---- the claims
pub record Matching : Type 0 where
  -- "A tie can't occur between two different texts that fit one URI": exactly one of two wildcard texts is better
  pub no_tie :
      (a b u : List ℕ) → fits_text Wildcard a u ≡ true → fits_text Wildcard b u ≡ true → (a ≡ b → ⊥) → beats_text a b ≡ not (beats_text b a)
  -- the same of prefixes: two of the same length are one text
  pub one-prefix : (a b u : List ℕ) → fits_text Prefix a u ≡ true → fits_text Prefix b u ≡ true → length a ≡ length b → a ≡ b
  -- "Among prefixes the most bytes win (never fewer components)"
  pub more_bytes :
      (a b u : List ℕ) → fits_text Prefix a u ≡ true → fits_text Prefix b u ≡ true → length a ≤ length b
      → length (components a) ≤ length (components b)
  -- the choice is the exact row, else the longest prefix, else the best wildcard
  pub choice-right : (rows : List Row) (u : List ℕ) → Right rows u (choice rows u)
  -- it is nothing exactly when no row fits
  pub nothing-exactly : (rows : List Row) (u : List ℕ) → (choice rows u ≡ None) ↔ ((k : ℕ) → fits_row u (row_at rows k) ≡ false)
  -- it does not depend on the order of the rows
  pub any_order : (xs ys : List Row) (u : List ℕ) → SameRows xs ys → SameChoice xs ys u
  pub same_row : (xs ys : List Row) (u : List ℕ) → SameRows xs ys → Distinct xs → chosen xs u ≡ chosen ys u
