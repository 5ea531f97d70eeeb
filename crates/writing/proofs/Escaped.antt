-- A text escaped byte by byte. Assumes nothing.
use Prim.Native.Nat.{ℕ}
use mathlib.Core.Bool.{true, false}
use mathlib.Core.List.{List, [], ◌∷◌}
use mathlib.Core.Path.{◌≡◌, refl}
use Rattle.seq.specs.Lists.{joined}
use Rattle.seq.proofs.Logic.{split}
use Rattle.strings.specs.Strings.{is_marked, escaped}

-- one byte of it
abbrev pub letter : ℕ → List ℕ
letter b = escaped (b ∷ [])

pub letter-marked : (b : ℕ) → is_marked b ≡ true → 92 ∷ b ∷ [] ≡ letter b
unfolding escaped
letter-marked b h = rw h

pub letter-other : (b : ℕ) → is_marked b ≡ false → b ∷ [] ≡ letter b
unfolding escaped
letter-other b h = rw h

pub letters : (t : List ℕ) → joined letter t ≡ escaped t
unfolding escaped
letters [] = refl
letters (b ∷ t) = split (is_marked b) (λ h. rw (h, letters t)) (λ h. rw (h, letters t))
