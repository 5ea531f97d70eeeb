-- Pairs of wildcard texts that fit one URI, of which the first is better, computed: cases of the order in Fit.antt that other orders get wrong.
-- Assumes nothing.
use Prim.Native.Nat.{ℕ}
use mathlib.Core.Bool.{true}
use mathlib.Core.List.{List, [], ◌∷◌}
use mathlib.Core.Path.{◌≡◌, refl}
use Rattle.seq.specs.Lists.{All, but_last, first_part, rest_parts}
use Rattle.seq.specs.Bytes.{chars}
use Rattle.pattern.specs.Match.{counts, greater, beats_text}

abbrev Pair : Type 0
Pair = record { better : List ℕ; other : List ℕ }

abbrev pub Beats : Pair → Type 0
Beats p = beats_text p.better p.other ≡ true

-- more literals in all, and fewer wildcards, in the other; no wildcard, and a count after the last one, in the better
abbrev pub pairs : List Pair
pairs =
    record { better = chars "x.."; other = chars ".y.z" }
    ∷ record { better = chars "x.y"; other = chars "x." }
    ∷ record { better = chars "x..z"; other = chars "x.." }
    ∷ []

pub each-better : All Beats pairs
unfolding but_last first_part rest_parts counts greater beats_text
each-better = (refl, (refl, (refl, tt)))
