use Prim.Native.Nat.{◌+◌}
use mathlib.Core.Bool.{true, false}
use mathlib.Core.Path.{◌≡◌, sym, ◌∙◌}
use native.Mathlib.Omega.{arith}
use Rattle.pattern.specs.Match.{fits_text}
use Rattle.pattern.specs.Along.{is_open}
use Rattle.pattern.proofs.Laws.{fits-short, fits-end}
use Rattle.pattern.proofs.Along.{walk_start, run-within, walk-stop, walk-within, walk-on}
use borrow.Author.Rules.{rules}
use Rattle.pattern.proofs.parts_fit.Goals as goal

pub loop-i-init : goal.loop-i-init
loop-i-init c = (omega arith, omega arith, walk_start _ _ _ (search rules))

pub returns-then-uri-j : goal.returns-then-uri-j
unfolding fits_text
returns-then-uri-j c =
    let args = c.args in
    let loop = c.loop-i in
    sym (loop.invariant.2.fits ∙ fits-short args.text.now args.uri.now loop.i loop.j (omega arith) c.if-uri-j.true)

pub overflow_add-e : goal.overflow_add-e
overflow_add-e c =
    let loop = c.loop-i in
    omega (arith, (run-within loop.invariant.2 (omega arith) (omega arith) c.common-n.ensures).0)

pub overflow_add-f : goal.overflow_add-f
overflow_add-f c =
    let loop = c.loop-i in
    omega (arith, (run-within loop.invariant.2 (omega arith) (omega arith) c.common-n.ensures).1)

pub returns-then-not-is_open : goal.returns-then-not-is_open
unfolding fits_text
returns-then-not-is_open c =
    let args = c.args in
    let loop = c.loop-i in
    let common = c.common-n in
    let filled : is_open args.text.now (loop.i + common.result) ≡ false = sym c.is_open.ensures ∙ c.if-not-is_open.true in
    c.both_end.ensures
    ∙ walk-stop loop.invariant.2 (omega arith) (omega arith) common.ensures filled

pub overflow_add-j : goal.overflow_add-j
overflow_add-j c =
    let args = c.args in
    let loop = c.loop-i in
    let common = c.common-n in
    let past = c.past-k in
    let empty : is_open args.text.now (loop.i + common.result) ≡ true = sym c.is_open.ensures ∙ c.if-not-is_open.false in
    omega (arith, walk-within loop.invariant.2 (omega arith) (omega arith) common.ensures empty past.ensures c.end_at-j.ensures)

pub overflow_add-i : goal.overflow_add-i
overflow_add-i c =
    let loop = c.loop-i in
    let common = c.common-n in
    omega (arith, (run-within loop.invariant.2 (omega arith) (omega arith) common.ensures).0)

pub loop-i-preserved : goal.loop-i-preserved
loop-i-preserved c =
    let args = c.args in
    let loop = c.loop-i in
    let common = c.common-n in
    let past = c.past-k in
    let empty : is_open args.text.now (loop.i + common.result) ≡ true = sym c.is_open.ensures ∙ c.if-not-is_open.false in
    let within = (run-within loop.invariant.2 (omega arith) (omega arith) common.ensures).0 in
    let ends = walk-within loop.invariant.2 (omega arith) (omega arith) common.ensures empty past.ensures c.end_at-j.ensures in
    (omega (arith, within), omega (arith, ends), walk-on loop.invariant.2 (omega arith) (omega arith) common.ensures empty past.ensures c.end_at-j.ensures)

pub returns : goal.returns
unfolding fits_text
returns c =
    let args = c.args in
    let loop = c.loop-i in
    sym (loop.invariant.2.fits ∙ fits-end args.text.now args.uri.now loop.i loop.j (omega arith))
