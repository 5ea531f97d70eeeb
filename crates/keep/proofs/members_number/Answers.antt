use lib.ListN.{length, drop, length-drop, get_or, drop_of_length-le}
use Prim.Native.Nat.{◌-◌}
use mathlib.Core.Bool.{false}
use mathlib.Core.Path.{◌≡◌, sym, ap, ◌∙◌}
use native.Mathlib.Omega.{arith}
use Rattle.seq.proofs.Search.{bit-low}
use Rattle.image.specs.Image.{bits_no}
use Rattle.image.proofs.Laws.{bits_fit, bits_back}
use borrow.Author.Rules.{rules}
use Rattle.keep.proofs.members_number.Goals as goal

pub loop-i-init : goal.loop-i-init
unfolding bits_no
loop-i-init c =
    let l : length c.args.holders ≡ 8 = search rules in
    (l, rw (drop_of_length-le c.args.holders {i = 8} (omega arith)))

pub bounds-holders-i : goal.bounds-holders-i
bounds-holders-i c = omega arith

pub overflow_mul-b : goal.overflow_mul-b
overflow_mul-b c =
    let hs = c.args.holders in
    let i = c.loop-i.i in
    let n = c.loop-i.invariant.0 in
    let l = bits_fit (drop i hs) (simp length-drop (omega arith)) in
    let e = c.loop-i.invariant.1 in
    omega arith

pub overflow_add-b : goal.overflow_add-b
overflow_add-b c =
    let hs = c.args.holders in
    let i = c.loop-i.i in
    let n = c.loop-i.invariant.0 in
    let l = bits_fit (drop i hs) (simp length-drop (omega arith)) in
    let e = c.loop-i.invariant.1 in
    omega (arith, c.bit_number.ensures, bit-low (get_or hs (i - 1) false))

pub loop-i-preserved : goal.loop-i-preserved
loop-i-preserved c =
    let hs = c.args.holders in
    let n = c.loop-i.invariant.0 in
    (n, rw (c.bit_number.ensures, c.loop-i.invariant.1) (sym (bits_back hs c.loop-i.i (c.loop-i.i - 1) (omega arith) (omega arith))))

pub returns : goal.returns
returns c =
    let e : c.loop-i.i ≡ 0 = omega arith in
    c.loop-i.invariant.1 ∙ ap (λ n. bits_no (drop n c.args.holders)) e
