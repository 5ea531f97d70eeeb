use mathlib.Core.Path.{sym, ap, ◌∙◌}
use Prim.Native.Nat.{◌+◌}
use native.Mathlib.Omega.{arith}
use lib.ListN.{length}
use Rattle.seq.proofs.Bytes.{byte-in}
use Rattle.lex.proofs.Laws.{within-to}
use Rattle.json_text.proofs.Laws.{falls-mark, at-short}
use Rattle.elements.specs.Elements.{elements, held}
use Rattle.elements.proofs.Laws.{none_from, ten-small, walk_begins, walk-goes, walk_ends, walk-trails, walk-breaks, walk-fails}
use Rattle.elements.proofs.Laws.{walk-overflows, listed-long, listed-not, listed-is}
use Rattle.elements.proofs.split.Goals as goal

pub returns-then-s-gt-MAX_BYTES : goal.returns-then-s-gt-MAX_BYTES
returns-then-s-gt-MAX_BYTES c =
    let args = c.args in
    let s = args.s.now in
    none_from s _ _ c.none.ensures (listed-long s c.if-s-gt-MAX_BYTES.true)

pub returns-then-byte-ne91 : goal.returns-then-byte-ne91
returns-then-byte-ne91 c =
    let if1 = c.if-s-gt-MAX_BYTES in
    let args = c.args in
    let s = args.s.now in
    none_from s _ _ c.none-then-byte-ne91.ensures
    (listed-not s _ _ if1.false c.space-a.ensures.means c.byte.ensures c.if-byte-ne91.true)

pub overflow_add-a : goal.overflow_add-a
overflow_add-a c =
    let inside = byte-in c.args.s.now c.space-a.result (omega arith) in
    omega arith

pub loop-m-init : goal.loop-m-init
loop-m-init c =
    let first-element = c.first_element-m in
    let space = c.space-a in
    let args = c.args in
    walk_begins args.s.now first-element.result c.none-r.result (space.result + 1) first-element.ensures.means c.none-r.ensures

pub returns-then-r-ge-MAX_ELEMENTS : goal.returns-then-r-ge-MAX_ELEMENTS
returns-then-r-ge-MAX_ELEMENTS c =
    let of-m = c.in-Item in
    let loop = c.loop-m in
    let if2 = c.if-byte-ne91 in
    let byte = c.byte in
    let space = c.space-a in
    let if1 = c.if-s-gt-MAX_BYTES in
    let args = c.args in
    let s = args.s.now in
    none_from s _ _ c.none-then-r-ge-MAX_ELEMENTS.ensures
    ((listed-is s _ _ if1.false space.ensures.means byte.ensures if2.false) ∙ walk-overflows s loop.m loop.r
    (elements 7 s (space.result + 1)) loop.invariant _ of-m.is c.if-r-ge-MAX_ELEMENTS.true)

pub returns-in_default : goal.returns-in_default
returns-in_default c =
    let of-m = c.in-Item in
    let loop = c.loop-m in
    let if2 = c.if-byte-ne91 in
    let byte = c.byte in
    let space = c.space-a in
    let if1 = c.if-s-gt-MAX_BYTES in
    let args = c.args in
    let s = args.s.now in
    none_from s _ _ c.none-in_default.ensures
    ((listed-is s _ _ if1.false space.ensures.means byte.ensures if2.false) ∙ walk-fails s loop.m loop.r
    (elements 7 s (space.result + 1)) loop.invariant _ of-m.is
    (sym (at-short 7 s of-m.i if1.false) ∙ sym c.value.ensures.means
    ∙ c.in_default.is))

pub push-r-requires : goal.push-r-requires
push-r-requires c =
    let loop = c.loop-m in
    omega (arith, loop.invariant.small, ten-small loop.r.n (omega arith))

pub loop-m-smaller : goal.loop-m-smaller
loop-m-smaller c =
    let of-e = c.in-Some in
    let value = c.value in
    let of-m = c.in-Item in
    let loop = c.loop-m in
    let args = c.args in
    let s = args.s.now in
    falls-mark (length s) loop.m c.next_element-m.result of-m.i of-e.e of-m.is
    (within-to of-m.i (length s) of-e.is value.ensures.within) c.next_element-m.ensures.marked

pub loop-m-preserved : goal.loop-m-preserved
loop-m-preserved c =
    let push = c.push-r in
    let of-e = c.in-Some in
    let value = c.value in
    let of-m = c.in-Item in
    let loop = c.loop-m in
    let space = c.space-a in
    let if1 = c.if-s-gt-MAX_BYTES in
    let args = c.args in
    let s = args.s.now in
    walk-goes s loop.m loop.r (elements 7 s (space.result + 1)) loop.invariant c.next_element-m.result push.result of-m.i
    of-e.e of-m.is (sym (at-short 7 s of-m.i if1.false) ∙ sym value.ensures.means ∙ of-e.is)
    (within-to of-m.i (length s) of-e.is value.ensures.within) c.if-r-ge-MAX_ELEMENTS.false
    push.ensures
    c.next_element-m.ensures.means c.next_element-m.ensures.marked

pub returns-then-space-s : goal.returns-then-space-s
returns-then-space-s c =
    let loop = c.loop-m in
    let if2 = c.if-byte-ne91 in
    let byte = c.byte in
    let space = c.space-a in
    let if1 = c.if-s-gt-MAX_BYTES in
    let args = c.args in
    let s = args.s.now in
    walk_ends s loop.m loop.r (elements 7 s (space.result + 1)) loop.invariant _ c.in-End.is
    (sym c.space.ensures.means ∙ c.if-space-s.true) ∙ ap (held s)
    (sym (listed-is s _ _ if1.false space.ensures.means byte.ensures if2.false))

pub returns-in-End : goal.returns-in-End
returns-in-End c =
    let of-m2 = c.in-End in
    let loop = c.loop-m in
    let if2 = c.if-byte-ne91 in
    let byte = c.byte in
    let space = c.space-a in
    let if1 = c.if-s-gt-MAX_BYTES in
    let args = c.args in
    let s = args.s.now in
    none_from s _ _ c.none-in-End.ensures
    ((listed-is s _ _ if1.false space.ensures.means byte.ensures if2.false) ∙ walk-trails s loop.m loop.r
    (elements 7 s (space.result + 1)) loop.invariant _ of-m2.is
    (λ e. c.if-space-s.false (c.space.ensures.means ∙ e)))

pub returns-in-Neither : goal.returns-in-Neither
returns-in-Neither c =
    let loop = c.loop-m in
    let if2 = c.if-byte-ne91 in
    let byte = c.byte in
    let space = c.space-a in
    let if1 = c.if-s-gt-MAX_BYTES in
    let args = c.args in
    let s = args.s.now in
    none_from s _ _ c.none-in-Neither.ensures
    ((listed-is s _ _ if1.false space.ensures.means byte.ensures if2.false) ∙ walk-breaks s loop.m loop.r
    (elements 7 s (space.result + 1)) loop.invariant c.in-Neither.is)
