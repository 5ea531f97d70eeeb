use mathlib.Core.Path.{◌≡◌}
use Rattle.pattern.specs.Choice.{best_among}
use Rattle.image.specs.Image.{held}
use Rattle.choose.proofs.best_of.Given as goal

abbrev pub invariant-loop-i : goal.invariant-loop-i
invariant-loop-i l = l.best ≡ best_among (held l.state).registrations.rows l.policy l.uri l.i
