use native.Mathlib.Omega.{arith}
use Rattle.pieces.specs.Pieces.{bytes_of}
use Rattle.packs.proofs.Heads.{few, none_in, one_in, two_in}
use Rattle.packs.proofs.head.Goals as goal

pub returns-in-Absent : goal.returns-in-Absent
unfolding bytes_of
returns-in-Absent c = λ m n e.
    let v = none_in m _ c.in-Absent.is in
    few _ n (omega (arith, c.requires)) (omega (arith, c.requires))

pub returns-in-Arguments : goal.returns-in-Arguments
unfolding bytes_of
returns-in-Arguments c = λ m n e.
    let v = one_in m _ _ c.in-Arguments.is in
    few _ n (omega (arith, c.requires)) (omega (arith, c.requires))

pub returns-in-Keywords : goal.returns-in-Keywords
unfolding bytes_of
returns-in-Keywords c = λ m n e.
    let v = two_in m _ _ _ c.in-Keywords.is in
    few _ n (omega (arith, c.requires)) (omega (arith, c.requires))
