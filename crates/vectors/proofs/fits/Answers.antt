use mathlib.Core.Path.{◌≡◌, sym}
use native.Mathlib.Omega.{arith}
use lib.ListN.{length}
use lib.Seq.{length-take-le}
use Rattle.uri.specs.Components.{most_components}
use Rattle.uri.proofs.Places.{ends_of}
use borrow.Author.Rules.{rules}
use Rattle.vectors.proofs.fits.Goals as goal

pub slice_bounds-ends-end : goal.slice_bounds-ends-end
slice_bounds-ends-end o c =
    let split = c.split-split in
    let l : length split.result.places ≡ 129 = search rules in
    omega (arith, split.ensures.most)

pub slice_bounds-fits-end : goal.slice_bounds-fits-end
slice_bounds-fits-end o c =
    let split = c.split-split in
    let l : length split.result.places ≡ 129 = search rules in
    sym (length-take-le split.result.count split.result.places (omega (arith, split.ensures.most)))

pub fits-requires : goal.fits-requires
fits-requires o c = ends_of _ _ most_components c.split-split.ensures.spans
