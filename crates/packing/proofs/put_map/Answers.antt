use Rattle.buffer.proofs.Wrote.{told, tells, wrote}
use Rattle.packing.proofs.Laws.{map_counted}
use Rattle.packing.proofs.put_map.Goals as goal

pub returns : goal.returns
returns c = tells (wrote (map_counted c.args.n) (told _ _ _ c.put_count.ensures))
