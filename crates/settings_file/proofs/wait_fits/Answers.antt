use mathlib.Core.Bool.{true, false}
use mathlib.Core.Path.{◌≡◌, refl, sym, ◌∙◌}
use Rattle.settings_file.specs.File.{has_wait, wait_fits}
use Rattle.settings_file.proofs.wait_fits.Goals as goal

pub returns-then-not-has_wait : goal.returns-then-not-has_wait
unfolding wait_fits
returns-then-not-has_wait c =
    let e : has_wait c.args.file.now ≡ false = sym c.has_wait.ensures ∙ c.if-not-has_wait.true in
    rw e refl

pub returns : goal.returns
unfolding wait_fits
returns c =
    let e : has_wait c.args.file.now ≡ true = sym c.has_wait.ensures ∙ c.if-not-has_wait.false in
    rw (e, c.body.ensures) refl
