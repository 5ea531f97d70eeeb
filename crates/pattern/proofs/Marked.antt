-- M1 to M11 are right: one computed test over the table, and the law that takes it to each entry. Assumes nothing.
use Prim.Native.Nat.{ℕ, ◌<◌}
use mathlib.Core.Bool.{true}
use mathlib.Core.Path.{◌≡◌, refl}
use lib.ListN.{length, get_or}
use Rattle.seq.specs.Lists.{every, first_part, rest_parts}
use Rattle.seq.specs.Bytes.{same}
use Rattle.seq.proofs.Lists.{every-at}
use Rattle.uri.specs.Uri.{same_policy}
use Rattle.pattern.specs.Match.{starts_with, covers, fits_parts, fits_text, counts, greater, beats_text, wins_text}
use Rattle.pattern.specs.Choice.{fits_row, candidate, preferred, considered, best_among, choice}
use Rattle.pattern.specs.Marked.{Case, right, marked}

pub all_right : every right marked ≡ true
unfolding every right marked first_part rest_parts same same_policy starts_with covers fits_parts fits_text counts greater beats_text wins_text
    fits_row candidate preferred considered best_among choice
all_right = refl

pub each_right : (d : Case) (i : ℕ) → i < length marked → right (get_or marked i d) ≡ true
each_right d i h = every-at right marked d all_right i h
