use mathlib.Core.Bool.{Bool}
use mathlib.Core.List.{List}
use mathlib.Core.Path.{◌≡◌}
use Prim.Native.Nat.{ℕ}
use lib.ListN.{length, take}
use Rattle.seq.specs.Bytes.{source}
use Rattle.seq.specs.declared.Format.{Format}
use Rattle.pieces.specs.Pieces.{written}
use Rattle.conversion.specs.Sources.{across}
use Rattle.outgoing.specs.Layout.{formats_of}
use Rattle.buffer.proofs.Wrote.{Wrote}
use Rattle.sections.specs.Sections.{put_in, put_to_each}
use Rattle.sections.specs.declared.Section.{Section}
use Rattle.sections.proofs.put_across.Given as goal

-- what a slot gets, by the pieces
abbrev pub gets : (s : Section) (from : Format) (packed : List Bool) (t u : List ℕ) → ℕ → List ℕ
gets s from packed t u j = across from (formats_of packed j) (put_in s j t) (put_in s j u)

abbrev pub invariant-loop-i : goal.invariant-loop-i
invariant-loop-i l =
    let t = written (source l.message l.text) l.ps in
    let u = written (source l.converted l.text) l.far_ps in
    (length l.fn.holders ≡ 8) × Wrote l.initial.out l.at (put_to_each (gets l.s l.from l.packed t u) 0 (take l.i l.fn.holders)) l.o l.out
    × (length l.out ≡ length l.initial.out)
