use mathlib.Core.Path.{sym, ap}
use native.Mathlib.Omega.{arith}
use lib.ListN.{length}
use lib.Seq.{take_all, length-take-le}
use Rattle.uri.specs.Uri.{longest}
use Rattle.state.proofs.cut.Goals as goal

pub returns-then-n-lt-LONGEST : goal.returns-then-n-lt-LONGEST
returns-then-n-lt-LONGEST c = sym (ap length (take_all longest c.args.text.now (omega arith)))

pub returns : goal.returns
returns c = sym (length-take-le longest c.args.text.now (omega arith))
