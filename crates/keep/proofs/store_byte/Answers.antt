use native.Mathlib.Omega.{arith}
use Rattle.image.proofs.Laws.{put_one}
use Rattle.keep.proofs.store_byte.Goals as goal

pub returns : goal.returns
returns c = put_one c.args.s.now c.args.at c.args.b (omega arith)
