use mathlib.Core.List.{[]}
use mathlib.Core.Path.{refl, sym, ap, ◌∙◌}
use native.Mathlib.Omega.{arith}
use lib.ListN.{length}
use lib.Seq.{take_all}
use Rattle.seq.specs.Bytes.{source}
use Rattle.conversion.specs.Sources.{across}
use Rattle.outgoing.specs.Layout.{formats_of}
use Rattle.outgoing.specs.Outgoing.{render}
use Rattle.replies.specs.Meaning.{message_of}
use Rattle.replies.specs.declared.Reply.TheVariants.{Event}
use Rattle.buffer.proofs.Wrote.{told, tells, wrote, wrote_as}
use Rattle.sections.specs.Sections.{put_to_each}
use Rattle.sections.specs.declared.Section.TheVariants.{Entries}
use Rattle.sections.proofs.Sections.{in-entries, nobody-wrote, slot-skipped, slot-passed, slot_turn, each_same, same_taken, same_left, event-within}
use borrow.Author.Rules.{rules}
use Rattle.sections.proofs.entries_within.Invariants.{entry, gets}
use Rattle.sections.proofs.entries_within.Goals.{then-held+then-speaks, then-held+else-speaks, else-held}
use Rattle.sections.proofs.entries_within.Goals as goal

pub loop-i-init : goal.loop-i-init
loop-i-init c = (search rules, nobody-wrote _ _ _ (omega arith), refl)

pub loop-i-preserved : goal.loop-i-preserved
loop-i-preserved c =
    let x = c.args in
    let room = c.well_formed.1.1.1.1.1.1.0 in
    let l = c.loop-i in
    let t = entry c.event_len-len.result l.i in
    let f = formats_of x.packed l.i in
    let g = gets x.format x.packed c.event_len-len.result in (
      search rules,
      elim c.if-held.branch [
        | then-held+then-speaks v ↦ wrote_as v.out-is v.o-is
            (slot_turn g x.holders l.i (omega arith) v.if-held.true t
            (same_taken t [] x.format f (sym v.speaks.ensures ∙ v.if-speaks.true)) (omega (arith, room)) l.invariant.1 (told _ _ _ v.put_entry-o.ensures))
        | then-held+else-speaks v ↦ wrote_as v.out-is v.o-is
            (wrote (slot-passed g x.holders l.i (omega arith) v.if-held.true
            (same_left t [] x.format f (sym v.speaks.ensures ∙ v.if-speaks.false))) l.invariant.1)
        | else-held v ↦ wrote_as v.out-is v.o-is (wrote (slot-skipped g x.holders l.i (omega arith) v.if-held.false) l.invariant.1)
      ],
      elim c.if-held.branch [
        | then-held+then-speaks v ↦ omega (arith, ap length v.out-is, v.put_entry-o.auto.out, l.invariant.2)
        | then-held+else-speaks v ↦ omega (arith, ap length v.out-is, l.invariant.2)
        | else-held v ↦ omega (arith, ap length v.out-is, l.invariant.2)
      ],
    )

pub shape_of-out : goal.shape_of-out
shape_of-out c = c.loop-i.invariant.2

pub returns : goal.returns
returns c =
    let x = c.args in
    let l = c.loop-i in
    let len = c.event_len-len in
    let t = render x.format (message_of (source x.message.now x.text.now) (Event x.e)) in
    let all = ap (put_to_each (gets x.format x.packed len.result) 0) (take_all l.i x.holders (omega arith)) in
    let means = each_same _ _ (λ j. ap (λ b. across x.format (formats_of x.packed j) b []) (in-entries Entries j t len.result len.ensures refl)
    ∙ event-within Entries x.message.now [] x.text.now x.e j x.format (formats_of x.packed j)) 0 x.holders in
    tells (wrote (all ∙ means) l.invariant.1)
