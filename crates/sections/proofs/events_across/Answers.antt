use Rattle.std.specs.Prelude.{None}
use Prim.Native.Nat.{◌+◌}
use mathlib.Core.List.{[]}
use mathlib.Core.Path.{◌≡◌, sym, ap, ap₂, ◌∙◌}
use lib.ListN.{length}
use Rattle.conversion.specs.Sources.{across, sources}
use Rattle.outgoing.specs.Layout.{formats_of}
use Rattle.buffer.specs.Capped.{capped}
use Rattle.buffer.proofs.Wrote.{told, tells, wrote}
use Rattle.sections.specs.Sections.{put_to_each, event_in, sizes}
use Rattle.sections.proofs.Sections.{counted-few, near-few, each-alike, alone-near, alone-far}
use borrow.Author.Rules.{rules}
use Rattle.sections.proofs.events_across.Goals as goal

pub returns-then-count_each-eq0 : goal.returns-then-count_each-eq0
returns-then-count_each-eq0 c =
    let x = c.args in
    let f = formats_of x.packed in
    let set = c.well_formed.1.1.1.1.1.1.1.1.0 in
    let eight : length x.holders ≡ 8 = search (rules, set) in
    let far = counted-few _ (λ j. near-few c.other_format-format.result (f j)) x.holders eight _ c.count_each.ensures in
    let none = ap (λ h. sizes (λ j. across h (f j) 1 0) 0 x.holders) (sym c.other_format-format.ensures) ∙ sym far ∙ c.if-count_each-eq0.true in
    let all = each-alike _ _ _ (λ j. alone-near x.s x.message.now x.converted.now x.text.now x.e j x.from (f j) x.other)
    0 x.holders none in
    tells (wrote all (told _ _ _ c.events_within.ensures))

pub returns-then-count_each-eq0-2 : goal.returns-then-count_each-eq0-2
returns-then-count_each-eq0-2 c =
    let x = c.args in
    let f = formats_of x.packed in
    let set = c.well_formed.1.1.1.1.1.1.1.1.0 in
    let eight : length x.holders ≡ 8 = search (rules, set) in
    let near = counted-few _ (λ j. near-few x.from (f j)) x.holders eight _ c.count_each-2.ensures in
    let turned = ap₂ (λ h r. put_to_each (event_in x.s f (sources h x.converted.now [] x.text.now) r None) 0 x.holders)
    c.other_format-format.ensures c.with_payload-far.ensures in
    let all = each-alike _ _ _ (λ j. alone-far x.s x.message.now x.converted.now x.text.now x.e j x.from (f j) x.other)
    0 x.holders (sym near ∙ c.if-count_each-eq0-2.true) in
    let past : c.events_within-then-count_each-eq0-2.result ≡ capped (x.at + length
    (put_to_each (event_in x.s f (sources c.other_format-format.result x.converted.now [] x.text.now) c.with_payload-far.result None) 0 x.holders)) =
    c.events_within-then-count_each-eq0-2.ensures.place in
    tells (wrote (turned ∙ all) (told _ _ _ record { place = past; bytes = c.events_within-then-count_each-eq0-2.ensures.bytes }))
