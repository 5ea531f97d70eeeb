use mathlib.Core.Path.{refl, ap}
use native.Mathlib.Omega.{arith}
use lib.ListN.{length}
use Rattle.seq.specs.Bytes.{source}
use Rattle.pieces.specs.Pieces.{written}
use Rattle.buffer.proofs.Wrote.{told, tells, wrote, wrote_none, wrote-both, wrote_as}
use Rattle.writing.proofs.Again.{repeated-none, repeated-all, repeated-more, reaches, copied}
use Rattle.writing.proofs.put_times.Goals.{else-past-out, then-past-out}
use Rattle.writing.proofs.put_times.Goals as goal

pub returns-then-times-eq0 : goal.returns-then-times-eq0
returns-then-times-eq0 c =
    let x = c.args in
    tells (wrote (repeated-none _ (written (source x.message.now x.text.now) x.ps) c.if-times-eq0.true) (wrote_none _ _ (omega arith)))

pub overflow_sub-n : goal.overflow_sub-n
overflow_sub-n c = reaches _ _ _ c.put_pieces-past.ensures.place (omega arith) (omega arith)

pub loop-i-init : goal.loop-i-init
loop-i-init c =
    let x = c.args in (
      wrote (repeated-none 0 (written (source x.message.now x.text.now) x.ps) refl) (wrote_none _ _ (omega arith)),
      refl,
    )

pub loop-i-preserved : goal.loop-i-preserved
loop-i-preserved c =
    let x = c.args in
    let room = c.well_formed.1.1.1.1.0 in
    let put-pieces = c.put_pieces-past in
    let l = c.loop-i in
    let t = written (source x.message.now x.text.now) x.ps in (
      elim c.if-past-out.branch [
        | then-past-out v ↦ wrote_as v.out-is v.o-is
            (wrote-both (repeated-more l.i t) (omega (arith, room, put-pieces.auto)) l.invariant.0
            (copied _ _ _ _ t _ _ _ _ _ _ (omega (arith, room)) (omega (arith, l.invariant.1, put-pieces.auto))
            (told _ _ _ put-pieces.ensures) l.invariant.0 refl v.if-past-out.true v.put_again-o.ensures.place v.put_again-o.ensures.bytes))
        | else-past-out v ↦ wrote_as v.out-is v.o-is
            (wrote-both (repeated-more l.i t) (omega (arith, room, put-pieces.auto)) l.invariant.0 (told _ _ _ v.put_pieces-o.ensures))
      ],
      elim c.if-past-out.branch [
        | then-past-out v ↦ omega (arith, ap length v.out-is, v.put_again-o.auto.out, l.invariant.1)
        | else-past-out v ↦ omega (arith, ap length v.out-is, v.put_pieces-o.auto.out, l.invariant.1)
      ],
    )

pub shape_of-out : goal.shape_of-out
shape_of-out c = omega (arith, c.loop-i.invariant.1, c.put_pieces-past.auto)

pub returns : goal.returns
returns c =
    let x = c.args in
    let room = c.well_formed.1.1.1.1.0 in
    let l = c.loop-i in
    let t = written (source x.message.now x.text.now) x.ps in
    let all = repeated-all l.i x.times t (omega arith) (omega (arith, c.if-times-eq0.false)) in
    tells (wrote-both all (omega (arith, room)) (told _ _ _ c.put_pieces-past.ensures) l.invariant.0)
