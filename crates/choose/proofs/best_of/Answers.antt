use mathlib.Core.Path.{◌≡◌, refl, ap, ◌∙◌}
use native.Mathlib.Numerals.{add-one}
use native.Mathlib.Omega.{arith}
use lib.ListN.{length}
use Rattle.pattern.specs.Choice.{best_among}
use Rattle.image.specs.Image.{held}
use Rattle.image.proofs.RoundTrip.{load_sized}
use Rattle.choose.proofs.best_of.Goals as goal

pub loop-i-init : goal.loop-i-init
unfolding best_among
loop-i-init c = refl

pub loop-i-preserved : goal.loop-i-preserved
unfolding best_among
loop-i-preserved c =
    let loop = c.loop-i in
    c.consider-best.ensures ∙ rw (add-one, loop.invariant)

pub returns : goal.returns
returns c =
    let args = c.args in
    let rows = (held args.state.now).registrations.rows in
    let l : length rows ≡ 32 = (load_sized args.state.now).registrations in
    let e : c.loop-i.i ≡ length rows = omega arith in
    c.loop-i.invariant ∙ ap (best_among rows args.policy args.uri.now) e
