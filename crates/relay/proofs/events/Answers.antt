use mathlib.Core.Path.{◌≡◌, refl, sym, ◌∙◌}
use mathlib.Core.List.{map}
use native.Mathlib.Omega.{arith}
use lib.ListN.{length, length-map}
use lib.Seq.{length-take-le}
use Rattle.seq.proofs.Loops.{filled-by, filled-all}
use Rattle.uri.specs.Components.{most_components}
use Rattle.uri.proofs.Places.{ends_of}
use Rattle.pattern.specs.Choice.{no_row}
use Rattle.image.specs.declared.Kind.TheVariants.{Members}
use Rattle.image.specs.Image.{held}
use Rattle.image.proofs.Parts.{rows-count}
use Rattle.relay.specs.Relay.{event_of, no_event}
use borrow.Author.Rules.{rules}
use Rattle.relay.proofs.events.Goals as goal

pub loop-i-init : goal.loop-i-init
loop-i-init c = refl

pub slice_bounds-ends-end : goal.slice_bounds-ends-end
slice_bounds-ends-end c =
    let split = c.split-split in
    let l : length split.result.places ≡ 129 = search rules in
    omega (arith, split.ensures.most)

pub slice_bounds-event-end : goal.slice_bounds-event-end
slice_bounds-event-end c =
    let split = c.split-split in
    let l : length split.result.places ≡ 129 = search rules in
    sym (length-take-le split.result.count split.result.places (omega (arith, split.ensures.most)))

pub event-requires : goal.event-requires
event-requires c = ends_of _ _ most_components c.split-split.ensures.spans

pub loop-i-preserved : goal.loop-i-preserved
loop-i-preserved c =
    let args = c.args in
    let loop = c.loop-i in
    let xs = (held args.state.now).subscriptions.rows in
    let l : length xs ≡ 32 = rows-count Members args.state.now in
    rw (c.event.ensures, c.row-row.ensures, loop.invariant)
    (filled-by (event_of args.to args.topic.now) 32 no_event no_row xs loop.i (omega arith) (omega arith))

pub returns : goal.returns
returns c =
    let args = c.args in
    let loop = c.loop-i in
    let xs = (held args.state.now).subscriptions.rows in
    let l : length xs ≡ 32 = rows-count Members args.state.now in
    loop.invariant ∙ filled-all 32 no_event (map (event_of args.to args.topic.now) xs) loop.i (simp length-map l) (omega arith)
