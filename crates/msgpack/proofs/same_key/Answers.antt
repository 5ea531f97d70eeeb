use Rattle.msgpack.proofs.same_key.Goals as goal

pub returns : goal.returns
returns c = cc
