-- The choice among rows for a URI (PROTOCOL, "Matching").
use Rattle.std.specs.Prelude.{ℕ, zero, suc, Bool, false, not, cond, ◌&&◌, List, eqb, length, take, get_or, replicate, Some, None, Option}
use Rattle.uri.specs.declared.Policy.{Policy}
use Rattle.uri.specs.declared.Policy.TheVariants.{Exact, Prefix, Wildcard}
use Rattle.uri.specs.Uri.{longest, same_policy}
use Rattle.pattern.specs.declared.Row.{Row}
use Rattle.pattern.specs.Match.{fits_text, wins_text}

-- ---- rows
-- an unused row, which is all zero
abbrev pub no_row : Row
no_row = record { number = 0; policy = Exact; holders = replicate 8 false; len = 0; text = replicate longest 0 }

-- the row at a place; past the last an unused one
abbrev pub row_at : List Row → ℕ → Row
row_at rows k = get_or rows k no_row

-- the bytes of a row's text
abbrev pub row_text : Row → List ℕ
row_text r = take r.len r.text

-- number 0 is an unused row
abbrev pub is_used : Row → Bool
is_used r = not (eqb r.number 0)

-- a used row whose text fits the URI by its policy
unfoldable pub fits_row : List ℕ → Row → Bool
fits_row u r = is_used r && fits_text r.policy (row_text r) u

-- one of this policy
unfoldable pub candidate : Policy → List ℕ → Row → Bool
candidate p u r = same_policy r.policy p && fits_row u r

-- ---- the best row of a policy
-- the place of the best row so far; 0 where there is none
abbrev pub place_of : Option ℕ → ℕ
place_of (Some k) = k
place_of None = 0

-- the better of the best place so far, whose row is `old`, and place i, whose row is `new`
unfoldable pub preferred : Policy → Option ℕ → Row → Row → ℕ → Option ℕ
preferred p None old new i = Some i
preferred p (Some k) old new i = cond (wins_text p (row_text new) (row_text old)) (Some i) (Some k)

-- the best place so far, with place i considered
unfoldable pub considered : Policy → List ℕ → Option ℕ → Row → Row → ℕ → Option ℕ
considered p u best old new i = cond (candidate p u new) (preferred p best old new i) best

-- the best place with the first n rows considered
unfoldable pub best_among : List Row → Policy → List ℕ → ℕ → Option ℕ
best_among rows p u zero = None
best_among rows p u (suc n) =
    considered p u (best_among rows p u n) (row_at rows (place_of (best_among rows p u n))) (row_at rows n) n

-- the place of the best fitting row of a policy
abbrev pub best_of : List Row → Policy → List ℕ → Option ℕ
best_of rows p u = best_among rows p u (length rows)

-- ---- the choice
-- the first, or the other where that is nothing
abbrev pub or_else : Option ℕ → Option ℕ → Option ℕ
or_else (Some k) other = Some k
or_else None other = other

-- PROTOCOL, "Matching": the exact row, else the longest prefix, else the best wildcard
unfoldable pub choice : List Row → List ℕ → Option ℕ
choice rows u = or_else (best_of rows Exact u) (or_else (best_of rows Prefix u) (best_of rows Wildcard u))

-- the row at a place found; an unused one where nothing was
abbrev pub row_of : List Row → Option ℕ → Row
row_of rows (Some k) = row_at rows k
row_of rows None = no_row

-- the row chosen
abbrev pub chosen : List Row → List ℕ → Row
chosen rows u = row_of rows (choice rows u)
