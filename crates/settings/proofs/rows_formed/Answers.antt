use Prim.Native.Nat.{◌-◌, ◌<◌}
use mathlib.Core.List.{[]}
use mathlib.Core.Path.{refl, sym, ap, ◌∙◌}
use native.Mathlib.Omega.{arith}
use lib.ListN.{length, drop}
use Rattle.seq.proofs.Lists.{every-fail, every-pass, every-end}
use Rattle.settings.specs.Lent.{padded, used_rows, row_formed}
use Rattle.settings.proofs.Laws.{used-most, used-row}
use Rattle.settings.proofs.rows_formed.Goals as goal

pub loop-k-init : goal.loop-k-init
loop-k-init c = refl

pub row-requires : goal.row-requires
row-requires c = omega (arith, used-most c.args.settings.now)

pub returns-then-not-is_padded : goal.returns-then-not-is_padded
unfolding row_formed
returns-then-not-is_padded c =
    let loop = c.loop-k in
    let s = c.args.settings.now in
    let n : loop.k < length (used_rows s) = omega (arith, c.requires) in
    let l : loop.k < length (used_rows s) = n in
    let r = ap row_formed (used-row s loop.k n) ∙ sym (c.is_padded.ensures ∙ ap padded (c.from.ensures ∙ ap (drop 3) c.row.ensures)) in
    sym (loop.invariant ∙ every-fail row_formed (used_rows s) loop.k [] l (r ∙ c.if-not-is_padded.true))

pub loop-k-preserved : goal.loop-k-preserved
unfolding row_formed
loop-k-preserved c =
    let loop = c.loop-k in
    let s = c.args.settings.now in
    let n : loop.k < length (used_rows s) = omega (arith, c.requires) in
    let l : loop.k < length (used_rows s) = n in
    let r = ap row_formed (used-row s loop.k n) ∙ sym (c.is_padded.ensures ∙ ap padded (c.from.ensures ∙ ap (drop 3) c.row.ensures)) in
    (loop.invariant ∙ every-pass row_formed (used_rows s) loop.k [] l (r ∙ c.if-not-is_padded.false))

pub returns : goal.returns
returns c =
    let loop = c.loop-k in
    let s = c.args.settings.now in
    sym (loop.invariant ∙ every-end row_formed (used_rows s) loop.k (omega (arith, c.requires)))
