use mathlib.Core.Path.{refl}
use mathlib.Core.Logic.{inl}
use native.Mathlib.Omega.{arith}
use Rattle.strings.proofs.Places.{plain-next}
use Rattle.strings.proofs.next.Goals as goal

pub returns : goal.returns
returns c =
    let args = c.args in
    let pre = c.requires in record {
      means = plain-next args.t.now args.at args.k pre.0 pre.1 c.if-b-eq92.false;
      place = (omega arith, inl refl);
    }
