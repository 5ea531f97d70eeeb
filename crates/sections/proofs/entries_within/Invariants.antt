use mathlib.Core.Bool.{Bool}
use mathlib.Core.List.{List, [], ◌∷◌}
use mathlib.Core.Path.{◌≡◌}
use Prim.Native.Nat.{ℕ, ◌%◌}
use lib.ListN.{length, take}
use Rattle.seq.specs.declared.Format.{Format}
use Rattle.conversion.specs.Sources.{across}
use Rattle.outgoing.specs.Layout.{be16, formats_of}
use Rattle.buffer.proofs.Wrote.{Wrote}
use Rattle.sections.specs.Sections.{put_to_each}
use Rattle.sections.proofs.entries_within.Given as goal

-- a slot's entry
abbrev pub entry : ℕ → ℕ → List ℕ
entry len j = j % 256 ∷ be16 len

-- what a slot gets, by the message's length
abbrev pub gets : (format : Format) (packed : List Bool) (len : ℕ) → ℕ → List ℕ
gets format packed len j = across format (formats_of packed j) (entry len j) []

abbrev pub invariant-loop-i : goal.invariant-loop-i
invariant-loop-i l =
    (length l.fn.holders ≡ 8) × Wrote l.initial.out l.at (put_to_each (gets l.format l.packed l.len) 0 (take l.i l.fn.holders)) l.o l.out × (length l.out ≡ length l.initial.out)
