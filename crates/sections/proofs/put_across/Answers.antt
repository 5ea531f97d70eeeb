use mathlib.Core.Path.{refl, sym, ap, ap₂, ◌∙◌}
use native.Mathlib.Omega.{arith}
use lib.ListN.{length}
use lib.Seq.{take_all}
use Rattle.seq.specs.Bytes.{source}
use Rattle.pieces.specs.Pieces.{written}
use Rattle.outgoing.specs.Outgoing.{render}
use Rattle.outgoing.specs.Layout.{formats_of}
use Rattle.replies.specs.Meaning.{message_of}
use Rattle.replies.specs.declared.Reply.TheVariants.{Event}
use Rattle.buffer.proofs.Wrote.{told, tells, wrote, wrote_as}
use Rattle.sections.specs.Sections.{put_in, put_to_each}
use Rattle.sections.proofs.Sections.{nobody-wrote, slot-skipped, slot_turn, each_same, same_taken, same_left, event-across}
use borrow.Author.Rules.{rules}
use Rattle.sections.proofs.put_across.Invariants.{gets}
use Rattle.sections.proofs.put_across.Goals.{then-held+then-speaks, then-held+else-speaks, else-held}
use Rattle.sections.proofs.put_across.Goals as goal

pub loop-i-init : goal.loop-i-init
loop-i-init c =
    let set = c.well_formed.1.1.1.1.1.1.1.1.0 in
    (search (rules, set), nobody-wrote _ _ _ (omega arith), refl)

pub put_mail-o-requires : goal.put_mail-o-requires
put_mail-o-requires c = c.pieces_len-len.ensures

pub put_mail-o-requires-else-speaks : goal.put_mail-o-requires-else-speaks
put_mail-o-requires-else-speaks c = c.pieces_len-far_len.ensures

pub loop-i-preserved : goal.loop-i-preserved
loop-i-preserved c =
    let x = c.args in
    let room = c.well_formed.1.1.1.1.1.1.1.1.1.0 in
    let l = c.loop-i in
    let t = written (source x.message.now x.text.now) c.settled-ps.result in
    let u = written (source x.converted.now x.text.now) c.settled-far_ps.result in
    let a = put_in x.s l.i t in
    let b = put_in x.s l.i u in
    let f = formats_of x.packed l.i in
    let g = gets x.s x.from x.packed t u in (
      search rules,
      elim c.if-held.branch [
        | then-held+then-speaks v ↦ wrote_as v.out-is v.o-is
            (slot_turn g x.holders l.i (omega arith) v.if-held.true a
            (same_taken a b x.from f (sym v.speaks.ensures ∙ v.if-speaks.true)) (omega (arith, room)) l.invariant.1 (told _ _ _ v.put_mail-o.ensures))
        | then-held+else-speaks v ↦ wrote_as v.out-is v.o-is
            (slot_turn g x.holders l.i (omega arith) v.if-held.true b
            (same_left a b x.from f (sym v.speaks.ensures ∙ v.if-speaks.false)) (omega (arith, room)) l.invariant.1 (told _ _ _ v.put_mail-o-else-speaks.ensures))
        | else-held v ↦ wrote_as v.out-is v.o-is (wrote (slot-skipped g x.holders l.i (omega arith) v.if-held.false) l.invariant.1)
      ],
      elim c.if-held.branch [
        | then-held+then-speaks v ↦ omega (arith, ap length v.out-is, v.put_mail-o.auto.out, l.invariant.2)
        | then-held+else-speaks v ↦ omega (arith, ap length v.out-is, v.put_mail-o-else-speaks.auto.out, l.invariant.2)
        | else-held v ↦ omega (arith, ap length v.out-is, l.invariant.2)
      ],
    )

pub shape_of-out : goal.shape_of-out
shape_of-out c = c.loop-i.invariant.2

pub returns : goal.returns
returns c =
    let x = c.args in
    let l = c.loop-i in
    let settled = c.settled-ps in
    let settled2 = c.settled-far_ps in
    let m = source x.message.now x.text.now in
    let n = source x.converted.now x.text.now in
    let g = gets x.s x.from x.packed in
    let near = settled.ensures x.message.now ∙ c.pieces_of.ensures m in
    let turned = ap₂ (λ h r. render h (message_of n (Event r))) c.other_format.ensures c.with_payload-far.ensures in
    let far = settled2.ensures x.converted.now ∙ c.pieces_of-2.ensures n ∙ turned in
    let all = ap (put_to_each (g (written m settled.result) (written n settled2.result)) 0) (take_all l.i x.holders (omega arith)) in
    let means = each_same _ _ (λ j. event-across x.s x.message.now x.converted.now x.text.now x.e j
    x.from (formats_of x.packed j) x.other) 0 x.holders in
    tells (wrote (all ∙ ap₂ (λ t u. put_to_each (g t u) 0 x.holders) near far ∙ means) l.invariant.1)
