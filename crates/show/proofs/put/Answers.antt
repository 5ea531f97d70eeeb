use mathlib.Core.Path.{◌≡◌, refl, ap, ◌∙◌}
use Prim.Native.Nat.{◌+◌, ◌-◌}
use native.Mathlib.Omega.{arith}
use lib.ListN.{set, get_or, length-set}
use lib.Seq.{paste, paste-zero}
use Rattle.show.proofs.Laws.{after_is, written_is, paste_more}
use Rattle.show.proofs.put.Goals as goal

pub loop-i-init : goal.loop-i-init
loop-i-init c = (paste-zero c.args.out.now c.args.at c.args.text.now, refl, c.count-n.ensures)

pub loop-i-preserved : goal.loop-i-preserved
loop-i-preserved c =
    let args = c.args in
    let loop = c.loop-i in (
      ap (λ l. set l (args.at + loop.i) (get_or args.text.now loop.i 0)) loop.invariant.0
          ∙ paste_more args.out.now args.at args.text.now loop.i (omega arith) (omega arith),
      simp length-set loop.invariant.1,
      loop.invariant.2,
    )

pub shape_of-out : goal.shape_of-out
shape_of-out c = c.loop-i.invariant.1

pub returns : goal.returns
returns c =
    let args = c.args in
    let loop = c.loop-i in
    let e : loop.i ≡ c.count-n.result = omega arith in record {
      place = after_is args.out.now args.at args.text.now _ loop.invariant.2;
      bytes = loop.invariant.0 ∙ ap (paste args.out.now args.at args.text.now) e
          ∙ written_is args.out.now args.at args.text.now _ loop.invariant.2;
    }
