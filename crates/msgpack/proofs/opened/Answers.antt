use native.Mathlib.Omega.{arith}
use Rattle.msgpack.proofs.Laws.{opened-deep, opened-empty}
use Rattle.msgpack.proofs.opened.Goals as goal

pub returns-then-depth-eq0 : goal.returns-then-depth-eq0
returns-then-depth-eq0 c =
    let args = c.args in
    let pre = c.requires in record {
      means = opened-deep args.depth args.s.now args.at args.h pre.1 pre.2 pre.3 c.if-depth-eq0.true;
      within = tt;
    }

pub returns-then-n-eq0 : goal.returns-then-n-eq0
returns-then-n-eq0 c =
    let args = c.args in
    let pre = c.requires in
    let behind = pre.4.behind (λ k. omega (arith, pre.3)) in record {
      means = opened-empty args.depth args.s.now args.at args.h pre.1 pre.2 pre.3 c.if-depth-eq0.false c.if-n-eq0.true;
      within = (behind, pre.4.inside);
    }
