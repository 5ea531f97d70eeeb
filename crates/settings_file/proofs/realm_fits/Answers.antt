use mathlib.Core.Path.{refl}
use Rattle.settings_file.specs.File.{realm_fits}
use Rattle.settings_file.proofs.realm_fits.Goals as goal

pub returns : goal.returns
unfolding realm_fits
returns c = rw (c.size.ensures, c.byte.ensures) refl
