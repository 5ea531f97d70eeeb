use mathlib.Core.Path.{◌≡◌, sym, ap, subst, ◌∙◌}
use Prim.Native.Nat.{ℕ, ◌+◌, ◌-◌}
use native.Mathlib.Omega.{arith}
use Rattle.msgpack.specs.MsgPack.{value, value_at}
use Rattle.msgpack.proofs.Laws.{at-short}
use Rattle.elements.proofs.Laws.{ten-small}
use Rattle.arrays.specs.Arrays.{held, spans}
use Rattle.arrays.proofs.Laws.{Walk, none_from, kept-many, walk_begins, walk-goes, walk-fails, walk_ends, walk-trails}
use Rattle.arrays.proofs.Laws.{listed-long, listed-not, listed-is}
use Rattle.arrays.proofs.split.Goals as goal

pub returns-then-s-gt-MAX_BYTES : goal.returns-then-s-gt-MAX_BYTES
returns-then-s-gt-MAX_BYTES c =
    let if1 = c.if-s-gt-MAX_BYTES in
    let args = c.args in
    let s = args.s.now in
    none_from s _ _ c.none.ensures (listed-long s if1.true)

pub returns-then-kind-ne-ARRAY : goal.returns-then-kind-ne-ARRAY
returns-then-kind-ne-ARRAY c =
    let if2 = c.if-kind-ne-ARRAY in
    let head-at = c.head_at-h in
    let if1 = c.if-s-gt-MAX_BYTES in
    let args = c.args in
    let s = args.s.now in
    none_from s _ _ c.none-then-kind-ne-ARRAY.ensures (listed-not s head-at.result head-at.ensures.means if1.false if2.true)

pub returns-then-count-gt-MAX_ELEMENTS : goal.returns-then-count-gt-MAX_ELEMENTS
returns-then-count-gt-MAX_ELEMENTS c =
    let if3 = c.if-count-gt-MAX_ELEMENTS in
    let if2 = c.if-kind-ne-ARRAY in
    let head-at = c.head_at-h in
    let if1 = c.if-s-gt-MAX_BYTES in
    let args = c.args in
    let s = args.s.now in
    none_from s _ _ c.none-then-count-gt-MAX_ELEMENTS.ensures
    (listed-is s head-at.result head-at.ensures.means if1.false if2.false ∙ kept-many s _ _ _ (omega (arith, if3.true)))

pub loop-init : goal.loop-init
loop-init c =
    let none4 = c.none-r in
    let if3 = c.if-count-gt-MAX_ELEMENTS in
    let args = c.args in
    let s = args.s.now in
    let h = c.head_at-h.result in
    let none : h.n ≡ h.n - 0 = omega arith in
    subst (λ (k : ℕ). Walk s h.end k none4.result (spans (value 7 s) h.n h.end)) none (walk_begins s _ _ none4.result none4.ensures (omega (arith, if3.false)))

pub returns-in_default : goal.returns-in_default
returns-in_default c =
    let enum_told = c.in_default in
    let read = c.value in
    let loop-test = c.loop-test in
    let loop = c.loop in
    let count = c.head_at-h.result.n in
    let left = count - loop.counter in
    let if2 = c.if-kind-ne-ARRAY in
    let head-at = c.head_at-h in
    let if1 = c.if-s-gt-MAX_BYTES in
    let args = c.args in
    let s = args.s.now in
    let nests : read.result ≡ value_at 7 s loop.p = read.ensures.means in
    let bad = sym (at-short 7 s loop.p if1.false) ∙ sym nests ∙ enum_told.is in
    none_from s _ _ c.none-in_default.ensures
    (listed-is s head-at.result head-at.ensures.means if1.false if2.false
    ∙ walk-fails s loop.p left loop.r _ loop.invariant (omega (arith, loop-test.true)) bad)

pub push-r-requires : goal.push-r-requires
push-r-requires c =
    let loop-test = c.loop-test in
    let loop = c.loop in
    let count = c.head_at-h.result.n in
    let left = count - loop.counter in
    omega (arith, loop.invariant.small, loop.invariant.room, loop-test.true, ten-small loop.r.n (omega (arith, loop.invariant.room, loop-test.true)))

pub loop-preserved : goal.loop-preserved
loop-preserved c =
    let push = c.push-r in
    let of-e = c.in-Some in
    let read = c.value in
    let loop-test = c.loop-test in
    let loop = c.loop in
    let count = c.head_at-h.result.n in
    let left = count - loop.counter in
    let if1 = c.if-s-gt-MAX_BYTES in
    let args = c.args in
    let s = args.s.now in
    let good = sym (at-short 7 s loop.p if1.false) ∙ sym read.ensures.means ∙ of-e.is in
    let less : left - 1 ≡ count - (loop.counter + 1) = omega arith in
    subst (λ (k : ℕ). Walk s of-e.e k push.result (spans (value 7 s) count c.head_at-h.result.end)) less
    (walk-goes s loop.p left loop.r _ loop.invariant of-e.e push.result (omega (arith, loop-test.true)) good push.ensures)

pub returns-then-p-s : goal.returns-then-p-s
returns-then-p-s c =
    let loop-test = c.loop-test in
    let loop = c.loop in
    let count = c.head_at-h.result.n in
    let left = count - loop.counter in
    let if2 = c.if-kind-ne-ARRAY in
    let head-at = c.head_at-h in
    let if1 = c.if-s-gt-MAX_BYTES in
    let args = c.args in
    let s = args.s.now in
    walk_ends s loop.p left loop.r _ loop.invariant (omega (arith, loop-test.false)) c.if-p-s.true
    ∙ ap (held s) (sym (listed-is s head-at.result head-at.ensures.means if1.false if2.false))

pub returns : goal.returns
returns c =
    let if4 = c.if-p-s in
    let loop-test = c.loop-test in
    let loop = c.loop in
    let count = c.head_at-h.result.n in
    let left = count - loop.counter in
    let if2 = c.if-kind-ne-ARRAY in
    let head-at = c.head_at-h in
    let if1 = c.if-s-gt-MAX_BYTES in
    let args = c.args in
    let s = args.s.now in
    none_from s _ _ c.none-2.ensures
    (listed-is s head-at.result head-at.ensures.means if1.false if2.false
    ∙ walk-trails s loop.p left loop.r _ loop.invariant (omega (arith, loop-test.false)) if4.false)
