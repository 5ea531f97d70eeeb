-- The row that a call is routed to is a used row of the table. Assumes nothing.
use Rattle.std.specs.Prelude.{Some}
use Prim.Native.Nat.{ℕ, ◌<◌}
use mathlib.Core.Bool.{false, ◌&&◌}
use mathlib.Core.List.{List}
use mathlib.Core.Path.{◌≡◌}
use lib.ListN.{length, get_or}
use Rattle.seq.proofs.Logic.{and_left, and_right, not_is}
use Rattle.uri.specs.declared.Policy.{Policy}
use Rattle.uri.specs.declared.Policy.TheVariants.{Exact, Prefix, Wildcard}
use Rattle.uri.specs.Uri.{same_policy}
use Rattle.pattern.specs.declared.Row.{Row}
use Rattle.pattern.specs.Choice.{no_row, row_at, is_used, row_text, fits_row, candidate, choice}
use Rattle.pattern.specs.Match.{fits_text}
use Rattle.pattern.specs.Right.{Fits, Right, exact, prefix, wildcard}
use Rattle.pattern.proofs.Chosen.{fits-within, matching}
use Rattle.model.specs.State.{unused}

abbrev Used : List Row → ℕ → Type 0
Used rows k = (k < length rows) × (unused (get_or rows k no_row) ≡ false)

-- a row that fits is used
fitting-used : (rows : List Row) (p : Policy) (u : List ℕ) (k : ℕ) → Fits rows p u k → Used rows k
unfolding candidate fits_row
fitting-used rows p u k f =
    let r = row_at rows k in
    let fits = and_right (same_policy r.policy p) (is_used r && fits_text r.policy (row_text r) u) f in
    (fits-within rows p u k (unfold candidate fits_row in f), not_is (unused r) (and_left (is_used r) (fits_text r.policy (row_text r) u) fits))

right-used : (rows : List Row) (u : List ℕ) (k : ℕ) → Right rows u (Some k) → Used rows k
right-used rows u k (exact j f) = fitting-used rows Exact u k f
right-used rows u k (prefix j e f l c) = fitting-used rows Prefix u k f
right-used rows u k (wildcard j e p f b) = fitting-used rows Wildcard u k f

pub choice-used : (rows : List Row) (u : List ℕ) (k : ℕ) → choice rows u ≡ Some k → Used rows k
choice-used rows u k e = right-used rows u k (rw e at (matching.choice-right rows u))
