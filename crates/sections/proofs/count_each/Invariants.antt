use mathlib.Core.Path.{◌≡◌}
use Prim.Native.Nat.{ℕ, ◌+◌}
use lib.ListN.{length, take}
use mathlib.Core.Bool.{Bool}
use mathlib.Core.List.{List}
use Rattle.seq.specs.declared.Format.{Format}
use Rattle.conversion.specs.Sources.{across}
use Rattle.outgoing.specs.Layout.{formats_of}
use Rattle.buffer.specs.Capped.{capped}
use Rattle.sections.specs.Sections.{sizes}
use Rattle.sections.proofs.count_each.Given as goal

-- what a slot gets
abbrev pub size : (format : Format) (packed : List Bool) (n : ℕ) → ℕ → ℕ
size format packed n j = across format (formats_of packed j) n 0

abbrev pub invariant-loop-i : goal.invariant-loop-i
invariant-loop-i l =
    (length l.fn.holders ≡ 8) × (l.o ≡ capped (l.at + sizes (size l.format l.packed l.n) 0 (take l.i l.fn.holders)))
