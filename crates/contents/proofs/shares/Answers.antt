use mathlib.Core.Path.{sym}
use native.Mathlib.Omega.{arith}
use Rattle.contents.proofs.Laws.{shares-none, shares-empty, shares-behind, shares-last}
use Rattle.contents.proofs.shares.Goals as goal

pub returns-then-x_end-x : goal.returns-then-x_end-x
returns-then-x_end-x c = let args = c.args in sym (shares-none args.x args.y (omega arith))

pub returns-then-y_end-y : goal.returns-then-y_end-y
returns-then-y_end-y c = let args = c.args in sym (shares-empty args.x args.y (omega arith) (omega arith))

pub returns-then-y_end-x : goal.returns-then-y_end-x
returns-then-y_end-x c = let args = c.args in sym (shares-behind args.x args.y (omega arith) (omega arith) (omega arith))

pub returns : goal.returns
returns c = let args = c.args in sym (shares-last args.x args.y (omega arith) (omega arith) (omega arith))
