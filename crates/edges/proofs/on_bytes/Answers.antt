use mathlib.Core.Path.{sym}
use lib.Seq.{length-take-le}
use Rattle.edges.proofs.on_bytes.Goals as goal

pub slice_bounds-boundary-end-2 : goal.slice_bounds-boundary-end-2
slice_bounds-boundary-end-2 c = sym (length-take-le _ _ c.limited-lent.ensures.within)
