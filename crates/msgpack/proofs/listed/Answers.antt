use Rattle.msgpack.specs.Head.{forms}
use Rattle.msgpack.proofs.Heads.{listed-form}
use Rattle.msgpack.proofs.listed.Goals as goal

pub returns : goal.returns
unfolding forms
returns c = listed-form forms _ _ _ c.requires c.size.ensures c.wide.ensures
