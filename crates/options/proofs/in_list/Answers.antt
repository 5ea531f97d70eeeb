use mathlib.Core.Path.{◌≡◌, sym, ap, ◌∙◌}
use Prim.Native.Nat.{◌+◌}
use native.Mathlib.Omega.{arith}
use lib.ListN.{length}
use Rattle.seq.specs.declared.Format.TheVariants.{Json}
use Rattle.seq.proofs.Bytes.{byte-in}
use Rattle.lex.proofs.Laws.{within-to}
use Rattle.json_text.proofs.Laws.{falls-mark, at-short}
use Rattle.elements.specs.Kinds.{id_of}
use Rattle.elements.specs.Elements.{span}
use Rattle.options.specs.Audience.{id_at}
use Rattle.options.proofs.Laws.{list-long, list-not, list-is}
use Rattle.options.proofs.Laws.{walk_begins, walk-goes, walk-stops, walk_ends, walk-trails, walk-breaks, walk-fails, walk-overflows}
use Rattle.options.proofs.in_list.Goals as goal

pub returns-then-v-gt-MAX_BYTES : goal.returns-then-v-gt-MAX_BYTES
returns-then-v-gt-MAX_BYTES c =
    let if1 = c.if-v-gt-MAX_BYTES in
    let args = c.args in
    let v = args.v.now in
    sym (list-long v if1.true)

pub returns-then-byte-ne91 : goal.returns-then-byte-ne91
returns-then-byte-ne91 c =
    let if2 = c.if-byte-ne91 in
    let byte = c.byte in
    let space = c.space-a in
    let if1 = c.if-v-gt-MAX_BYTES in
    let args = c.args in
    let v = args.v.now in
    sym (list-not v _ _ if1.false space.ensures.means byte.ensures if2.true)

pub overflow_add-a : goal.overflow_add-a
overflow_add-a c =
    let inside = byte-in c.args.v.now c.space-a.result (omega arith) in
    omega arith

pub loop-m-init : goal.loop-m-init
loop-m-init c =
    let first-element = c.first_element-m in
    let space = c.space-a in
    let args = c.args in
    walk_begins args.v.now first-element.result c.no_ids-r.result (space.result + 1) first-element.ensures.means c.no_ids-r.ensures

pub returns-then-r-ge-MOST_IDS : goal.returns-then-r-ge-MOST_IDS
returns-then-r-ge-MOST_IDS c =
    let of-m = c.in-Item in
    let loop = c.loop-m in
    let if3 = c.if-r-ge-MOST_IDS in
    let if2 = c.if-byte-ne91 in
    let byte = c.byte in
    let space = c.space-a in
    let if1 = c.if-v-gt-MAX_BYTES in
    let args = c.args in
    let v = args.v.now in
    let opened = list-is v _ _ if1.false space.ensures.means byte.ensures if2.false in
    sym (opened ∙ walk-overflows v loop.m loop.r _ loop.invariant _ of-m.is if3.true)

pub returns-in_err-e-in-Item : goal.returns-in_err-e-in-Item
returns-in_err-e-in-Item c =
    let read = c.value in
    let of-m = c.in-Item in
    let loop = c.loop-m in
    let if2 = c.if-byte-ne91 in
    let byte = c.byte in
    let space = c.space-a in
    let if1 = c.if-v-gt-MAX_BYTES in
    let args = c.args in
    let v = args.v.now in
    let opened = list-is v _ _ if1.false space.ensures.means byte.ensures if2.false in
    let bad = sym (at-short 7 v of-m.i if1.false) ∙ sym read.ensures.means ∙ c.in_err-e-in-Item.was in
    rw c.from_residual.ensures (sym (opened ∙ walk-fails v loop.m loop.r _ loop.invariant _ of-m.is bad))

pub returns-then-id-eq0 : goal.returns-then-id-eq0
returns-then-id-eq0 c =
    let if4 = c.if-id-eq0 in
    let id = c.id-id in
    let text = c.text in
    let of-e = c.in_ok-e-in-Item in
    let read = c.value in
    let of-m = c.in-Item in
    let loop = c.loop-m in
    let if2 = c.if-byte-ne91 in
    let byte = c.byte in
    let space = c.space-a in
    let if1 = c.if-v-gt-MAX_BYTES in
    let args = c.args in
    let v = args.v.now in
    let opened = list-is v _ _ if1.false space.ensures.means byte.ensures if2.false in
    let good = sym (at-short 7 v of-m.i if1.false) ∙ sym read.ensures.means ∙ of-e.was in
    let number : id.result ≡ id_at Json v (span of-m.i of-e.e) = id.ensures ∙ ap id_of text.ensures in
    sym (opened ∙ walk-stops v loop.m loop.r _ loop.invariant _ _ _ of-m.is good number if4.true)

pub loop-m-smaller : goal.loop-m-smaller
loop-m-smaller c =
    let of-e = c.in_ok-e-in-Item in
    let read = c.value in
    let of-m = c.in-Item in
    let loop = c.loop-m in
    let args = c.args in
    let v = args.v.now in
    falls-mark (length v) loop.m c.next_element-m.result of-m.i of-e.e of-m.is
    (within-to of-m.i (length v) of-e.was read.ensures.within) c.next_element-m.ensures.marked

pub loop-m-preserved : goal.loop-m-preserved
loop-m-preserved c =
    let push = c.push-r in
    let if4 = c.if-id-eq0 in
    let id = c.id-id in
    let text = c.text in
    let of-e = c.in_ok-e-in-Item in
    let read = c.value in
    let if3 = c.if-r-ge-MOST_IDS in
    let of-m = c.in-Item in
    let loop = c.loop-m in
    let if1 = c.if-v-gt-MAX_BYTES in
    let args = c.args in
    let v = args.v.now in
    let good = sym (at-short 7 v of-m.i if1.false) ∙ sym read.ensures.means ∙ of-e.was in
    let number : id.result ≡ id_at Json v (span of-m.i of-e.e) = id.ensures ∙ ap id_of text.ensures in
    walk-goes v loop.m loop.r _ loop.invariant c.next_element-m.result push.result _ _ _ of-m.is good
    (within-to of-m.i (length v) of-e.was read.ensures.within) number if4.false if3.false push.ensures
    c.next_element-m.ensures.means c.next_element-m.ensures.marked

pub returns-then-space-v : goal.returns-then-space-v
returns-then-space-v c =
    let space2 = c.space in
    let of-m2 = c.in-End in
    let loop = c.loop-m in
    let if2 = c.if-byte-ne91 in
    let byte = c.byte in
    let space = c.space-a in
    let if1 = c.if-v-gt-MAX_BYTES in
    let args = c.args in
    let v = args.v.now in
    let opened = list-is v _ _ if1.false space.ensures.means byte.ensures if2.false in
    walk_ends v loop.m loop.r _ loop.invariant _ of-m2.is (sym space2.ensures.means ∙ c.if-space-v.true) ∙ sym opened

pub returns-in-End : goal.returns-in-End
returns-in-End c =
    let if5 = c.if-space-v in
    let space2 = c.space in
    let of-m2 = c.in-End in
    let loop = c.loop-m in
    let if2 = c.if-byte-ne91 in
    let byte = c.byte in
    let space = c.space-a in
    let if1 = c.if-v-gt-MAX_BYTES in
    let args = c.args in
    let v = args.v.now in
    let opened = list-is v _ _ if1.false space.ensures.means byte.ensures if2.false in
    sym (opened ∙ walk-trails v loop.m loop.r _ loop.invariant _ of-m2.is (λ e. if5.false (space2.ensures.means ∙ e)))

pub returns-in-Neither : goal.returns-in-Neither
returns-in-Neither c =
    let told = c.in-Neither in
    let loop = c.loop-m in
    let if2 = c.if-byte-ne91 in
    let byte = c.byte in
    let space = c.space-a in
    let if1 = c.if-v-gt-MAX_BYTES in
    let args = c.args in
    let v = args.v.now in
    let opened = list-is v _ _ if1.false space.ensures.means byte.ensures if2.false in
    sym (opened ∙ walk-breaks v loop.m loop.r _ loop.invariant told.is)
