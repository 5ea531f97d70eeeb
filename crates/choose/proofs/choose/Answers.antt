use mathlib.Core.Path.{◌≡◌, sym, ◌∙◌}
use lib.ListN.{length}
use lib.Seq.{length-take-le}
use native.Mathlib.Omega.{arith}
use Rattle.uri.specs.Components.{most_components, spans_to}
use Rattle.uri.proofs.Places.{ends_of}
use Rattle.uri.specs.declared.Policy.TheVariants.{Prefix}
use Rattle.pattern.specs.Choice.{best_of, choice}
use Rattle.image.specs.Image.{held}
use borrow.Author.Rules.{rules}
use Rattle.choose.proofs.choose.Goals as goal

pub best_of-exact-requires : goal.best_of-exact-requires
unfolding spans_to
best_of-exact-requires c = search rules

pub returns-in-Some : goal.returns-in-Some
unfolding choice
returns-in-Some c =
    let best-of = c.best_of-exact in
    rw (sym best-of.ensures ∙ c.in-Some.is)

pub best_of-prefix-requires : goal.best_of-prefix-requires
unfolding spans_to
best_of-prefix-requires c = search rules

pub returns-in-Some-prefix : goal.returns-in-Some-prefix
unfolding choice
returns-in-Some-prefix c =
    let best-of = c.best_of-exact in
    let enum_told = c.in_default in
    let best-of2 = c.best_of-prefix in
    let args = c.args in
    let found : best_of (held args.state.now).registrations.rows Prefix args.uri.now ≡ best-of2.result = sym best-of2.ensures in
    rw (sym best-of.ensures ∙ enum_told.is, found ∙ c.in-Some-prefix.is)

pub slice_bounds-ends-end : goal.slice_bounds-ends-end
slice_bounds-ends-end c =
    let split = c.split-split in
    let l : length split.result.places ≡ 129 = search rules in
    omega (arith, split.ensures.most)

pub slice_bounds-best_of-end-3 : goal.slice_bounds-best_of-end-3
slice_bounds-best_of-end-3 c =
    let split = c.split-split in
    let l : length split.result.places ≡ 129 = search rules in
    sym (length-take-le split.result.count split.result.places (omega (arith, split.ensures.most)))

pub best_of-requires : goal.best_of-requires
best_of-requires c = ends_of _ _ most_components c.split-split.ensures.spans

pub returns : goal.returns
unfolding choice
returns c =
    let best-of = c.best_of-exact in
    let enum_told = c.in_default in
    let best-of2 = c.best_of-prefix in
    let enum-told2 = c.in_default-prefix in
    rw (sym best-of.ensures ∙ enum_told.is, sym best-of2.ensures ∙ enum-told2.is) c.best_of.ensures
