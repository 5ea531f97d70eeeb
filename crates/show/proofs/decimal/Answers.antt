use mathlib.Core.Path.{refl, sym}
use mathlib.Core.List.{append-nil}
use native.Mathlib.Omega.{arith}
use lib.ListN.{length-set}
use Rattle.show.proofs.Laws.{room, turn, ends}
use Rattle.show.proofs.decimal.Goals as goal

pub loop-rest-init : goal.loop-rest-init
loop-rest-init c = (sym (append-nil _), refl, omega arith, omega arith)

pub overflow_sub-from : goal.overflow_sub-from
overflow_sub-from c =
    let loop = c.loop-rest in
    let h = room c.args.n loop.rest loop.from loop.bytes loop.invariant.0 loop.invariant.1 loop.invariant.2 in
    omega arith

pub loop-rest-preserved : goal.loop-rest-preserved
loop-rest-preserved c =
    let loop = c.loop-rest in
    let args = c.args in (
      turn args.n loop.rest loop.from loop.bytes loop.invariant.0 loop.invariant.1 loop.invariant.2 _ c.last.ensures (omega arith) (omega arith),
      simp length-set loop.invariant.1,
      omega arith,
      omega arith,
    )

pub overflow_sub-from-2 : goal.overflow_sub-from-2
overflow_sub-from-2 c =
    let loop = c.loop-rest in
    let h = room c.args.n loop.rest loop.from loop.bytes loop.invariant.0 loop.invariant.1 loop.invariant.2 in
    omega arith

pub returns : goal.returns
returns c =
    let loop = c.loop-rest in
    let args = c.args in
    ends args.n loop.rest loop.from loop.bytes loop.invariant.0 loop.invariant.1 loop.invariant.2 _ c.last-2.ensures (omega arith)
