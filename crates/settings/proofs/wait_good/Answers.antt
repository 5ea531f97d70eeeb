use mathlib.Core.Path.{◌≡◌, refl}
use native.Mathlib.Omega.{arith}
use borrow.Author.Tests.{le-leb, lt-leb}
use lib.Dec.{leb}
use Rattle.settings.specs.Settings.{longest_wait, wait_good}
use Rattle.settings.proofs.wait_good.Goals as goal

pub returns-then-wait-eq0 : goal.returns-then-wait-eq0
unfolding wait_good
returns-then-wait-eq0 c = rw (lt-leb 1 c.args.wait (omega arith))

pub returns : goal.returns
unfolding wait_good
returns c =
    let wait = c.args.wait in
    let last : leb wait longest_wait ≡ leb wait longest_wait = refl in
    rw (le-leb 1 wait (omega arith)) last
