-- The first and the last character of each row of RFC 3629's table, and the first and the last before and after those that are none, by
-- computation. Table.antt says it of every text; this file is checked before it, so that the log of an edit begins with a case.
use mathlib.Core.Bool.{true, false}
use mathlib.Core.List.{[], ◌∷◌}
use mathlib.Core.Path.{◌≡◌, refl}
use Rattle.seq.specs.Lists.{All}
use Rattle.utf8.specs.Utf8.{lead, step, continues, well_formed}
use Rattle.utf8.specs.Table.{encoding}

pub ends : All (λ n. well_formed (encoding n) ≡ true) (0 ∷ 0x7f ∷ 0x80 ∷ 0x7ff ∷ 0x800 ∷ 0xd7ff ∷ 0xe000 ∷ 0xffff ∷ 0x10000 ∷ 0x10ffff ∷ [])
unfolding lead step continues encoding
ends = (refl, (refl, (refl, (refl, (refl, (refl, (refl, (refl, (refl, (refl, tt))))))))))

pub none : All (λ n. well_formed (encoding n) ≡ false) (0xd800 ∷ 0xdfff ∷ 0x110000 ∷ [])
unfolding lead step continues encoding
none = (refl, (refl, (refl, tt)))
