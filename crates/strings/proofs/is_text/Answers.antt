use mathlib.Core.Path.{refl, sym, ap, ◌∙◌}
use mathlib.Core.Logic.{inl}
use native.Mathlib.Omega.{arith}
use lib.ListN.{length, drop_of_length-le}
use Rattle.strings.proofs.Places.{within-plain, plain-on, rest_end, same_next, same_differs, same-longer, same_ends}
use lib.Seq.{drop-cons}
use native.Mathlib.Numerals.{add-one}
use Rattle.strings.proofs.is_text.Goals as goal

pub loop-at-init : goal.loop-at-init
loop-at-init c = (refl, omega arith, omega arith, inl refl)

pub returns-then-text-i : goal.returns-then-text-i
returns-then-text-i c =
    let args = c.args in
    let loop = c.loop-at in
    let over = drop_of_length-le args.text.now c.if-text-i.true in
    sym (loop.invariant.0 ∙ same-longer args.t.now loop.at loop.k loop.invariant.3 (omega arith) _ over)

pub spelled-c-requires : goal.spelled-c-requires
spelled-c-requires c = (omega arith, c.if-b-eq92.true, c.loop-at.invariant.3)

pub returns-then-text-i-2 : goal.returns-then-text-i-2
returns-then-text-i-2 c =
    let loop = c.loop-at in
    let spelled = c.spelled-c in
    let own = drop-cons c.args.text.now loop.i 0 (omega arith) in
    sym (loop.invariant.0 ∙ same_differs _ _ _ _ _ _ spelled.ensures.means own (λ e. c.if-text-i-2.true (sym e)))

pub loop-at-smaller-then-b-eq92 : goal.loop-at-smaller-then-b-eq92
loop-at-smaller-then-b-eq92 c = let q = ap length c.spelled-c.ensures.means in omega arith

pub loop-at-preserved-then-b-eq92 : goal.loop-at-preserved-then-b-eq92
loop-at-preserved-then-b-eq92 c =
    let loop = c.loop-at in
    let spelled = c.spelled-c in
    let own = drop-cons c.args.text.now loop.i 0 (omega arith) in (
      loop.invariant.0 ∙ rw (add-one loop.i) (same_next _ _ _ _ _ _ spelled.ensures.means own (sym c.if-text-i-2.false)),
      omega arith,
      spelled.ensures.place.0,
      spelled.ensures.place.1,
    )

pub returns-then-text-i-3 : goal.returns-then-text-i-3
returns-then-text-i-3 c =
    let args = c.args in
    let loop = c.loop-at in
    let own = drop-cons args.text.now loop.i 0 (omega arith) in
    let on = plain-on args.t.now loop.at loop.k (omega arith) loop.invariant.3 c.if-b-eq92.false in
    sym (loop.invariant.0 ∙ same_differs _ _ _ _ _ _ on own (λ e. c.if-text-i-3.true (sym e)))

pub loop-at-smaller : goal.loop-at-smaller
loop-at-smaller c =
    let loop = c.loop-at in
    let q = ap length (plain-on c.args.t.now loop.at loop.k (omega arith) loop.invariant.3 c.if-b-eq92.false) in
    omega arith

pub loop-at-preserved : goal.loop-at-preserved
loop-at-preserved c =
    let args = c.args in
    let loop = c.loop-at in
    let own = drop-cons args.text.now loop.i 0 (omega arith) in
    let on = plain-on args.t.now loop.at loop.k (omega arith) loop.invariant.3 c.if-b-eq92.false in (
      loop.invariant.0 ∙ rw (add-one loop.i) (same_next _ _ _ _ _ _ on own (sym c.if-text-i-3.false)),
      omega arith,
      omega arith,
      inl (within-plain args.t.now loop.at loop.k loop.invariant.3 c.if-b-eq92.false),
    )

pub returns : goal.returns
returns c =
    let args = c.args in
    let loop = c.loop-at in
    let over = rest_end args.t.now loop.at loop.k (omega arith) in
    sym (loop.invariant.0 ∙ same_ends args.text.now loop.i (omega arith) _ over)
