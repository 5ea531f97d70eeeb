use mathlib.Core.Path.{◌≡◌, ap, ◌∙◌}
use native.Mathlib.Omega.{arith}
use lib.ListN.{drop}
use Rattle.seq.specs.BigEndian.{number}
use Rattle.seq.proofs.BigEndian.{Bytes}
use Rattle.contents.proofs.Laws.{number_at, section-by}
use Rattle.contents.proofs.section_of.Goals as goal

pub returns : goal.returns
returns c =
    let c2 = c in
    let c4 = c2 in
    let s = c4.args.entry.now in
    let low : Bytes s = (λ k. omega (arith, c4.shared_slice_known-1.given k)) in
    let p : c2.number32-place.result ≡ number 4 (drop 1 s) = c2.number32-place.ensures ∙ ap (number 4) c2.from.ensures in
    let l : c.number32-len.result ≡ number 4 (drop 5 s) = c.number32-len.ensures ∙ ap (number 4) c.from-2.ensures in record {
      value = section-by s _ _ _ c4.byte-kind.ensures p l;
      narrow = (rw p (number_at 1 s low), rw l (number_at 5 s low));
    }
