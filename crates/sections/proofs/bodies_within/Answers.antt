use mathlib.Core.List.{[]}
use mathlib.Core.Path.{◌≡◌, ap, ◌∙◌}
use lib.ListN.{length}
use Rattle.seq.specs.Bytes.{source}
use Rattle.pieces.specs.Pieces.{written}
use Rattle.conversion.specs.Sources.{across}
use Rattle.outgoing.specs.Layout.{formats_of}
use Rattle.buffer.proofs.Wrote.{told, tells, wrote}
use Rattle.writing.specs.Times.{repeated}
use Rattle.sections.specs.Sections.{put_to_each}
use Rattle.sections.specs.declared.Section.TheVariants.{Bodies}
use Rattle.sections.proofs.Sections.{counted-few, near-few, each-near, each_same, event-within}
use borrow.Author.Rules.{rules}
use Rattle.sections.proofs.bodies_within.Goals as goal

pub returns : goal.returns
returns c =
    let x = c.args in
    let count-each = c.count_each-times in
    let pieces_of = c.pieces_of-ps in
    let m = source x.message.now x.text.now in
    let f = formats_of x.packed in
    let eight : length x.holders ≡ 8 = search rules in
    let times = counted-few _ (λ j. near-few x.format (f j)) x.holders eight _ count-each.ensures in
    let same = ap (λ t. put_to_each (λ j. across x.format (f j) t []) 0 x.holders) (pieces_of.ensures m) in
    let means = each_same _ _ (λ j. event-within Bodies x.message.now [] x.text.now x.e j x.format (f j)) 0 x.holders in
    let all = ap (λ k. repeated k (written m pieces_of.result)) times ∙ each-near (written m pieces_of.result) x.format f x.holders in
    tells (wrote (all ∙ same ∙ means) (told _ _ _ c.put_times.ensures))
