use Prim.Native.Nat.{◌+◌}
use mathlib.Core.List.{[]}
use mathlib.Core.Path.{◌≡◌, refl, sym, ap, ◌∙◌}
use native.Mathlib.Omega.{arith}
use lib.ListN.{length}
use Rattle.seq.specs.Bytes.{source}
use Rattle.outgoing.specs.Layout.{formats_of}
use Rattle.outgoing.specs.Outgoing.{render}
use Rattle.replies.specs.Meaning.{message_of}
use Rattle.replies.specs.declared.Reply.TheVariants.{Event}
use Rattle.buffer.specs.Capped.{capped}
use Rattle.buffer.proofs.Sums.{capped_is, sum-turn}
use Rattle.sections.proofs.Sections.{counted-few, near-few, sizes-away, not-near, sizes-each, event-size}
use borrow.Author.Rules.{rules}
use Rattle.sections.proofs.size_within.Goals as goal

pub returns-then-count_each-eq0 : goal.returns-then-count_each-eq0
returns-then-count_each-eq0 c =
    let x = c.args in
    let f = formats_of x.packed in
    let eight : length x.holders ≡ 8 = search rules in
    let near = counted-few _ (λ j. near-few x.format (f j)) x.holders eight _ c.count_each.ensures in
    let none = sizes-away _ _ (λ j. not-near x.message.now [] x.text.now x.e j x.format (f j)) 0 x.holders (sym near ∙ c.if-count_each-eq0.true) in
    capped_is x.at (omega arith) ∙ ap capped (omega (arith, none))

pub returns : goal.returns
returns c =
    let x = c.args in
    let m = source x.message.now x.text.now in
    let t = render x.format (message_of m (Event x.e)) in
    let size = c.plus-size.ensures ∙ sum-turn 3 _ 3 (length t) (3 + length t) (capped_is 3 (omega arith)) c.event_len.ensures refl in
    c.count_each-2.ensures
    ∙ sizes-each _ _ (λ j. event-size x.message.now [] x.text.now x.e j c.plus-size.result x.format (formats_of x.packed j) size)
    0 x.holders x.at
