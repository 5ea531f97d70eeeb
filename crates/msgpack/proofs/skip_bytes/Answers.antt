use native.Mathlib.Omega.{arith}
use Rattle.msgpack.proofs.Laws.{bytes_cut, bytes-are}
use Rattle.msgpack.proofs.skip_bytes.Goals as goal

pub returns-then-room-n : goal.returns-then-room-n
returns-then-room-n c = record {
  means = bytes_cut _ _ _ (omega arith);
  within = tt;
}

pub returns : goal.returns
returns c = record {
  means = bytes-are _ _ _ (omega arith);
  within = omega arith;
}
