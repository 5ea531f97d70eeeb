use Rattle.buffer.proofs.Wrote.{told, tells, wrote}
use Rattle.packing.proofs.Laws.{array_counted}
use Rattle.packing.proofs.put_array.Goals as goal

pub returns : goal.returns
returns c = tells (wrote (array_counted c.args.n) (told _ _ _ c.put_count.ensures))
