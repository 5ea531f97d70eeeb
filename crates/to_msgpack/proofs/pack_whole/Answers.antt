use Rattle.to_msgpack.proofs.Scalars.{whole-not, whole-gives, scalar-whole, ends_is}
use Rattle.conversion.proofs.Conv.{converts, converts-not}
use Rattle.buffer.proofs.Wrote.{told, wrote}
use Rattle.values.specs.Write.{pack_scalar}
use lib.ListN.{length}
use Rattle.to_msgpack.proofs.pack_whole.Goals as goal

pub returns-in_err-i : goal.returns-in_err-i
returns-in_err-i c = rw c.from_residual.ensures (record {
  means = converts-not _ _ pack_scalar _ _ (whole-not _ _ _ c.whole_at.ensures.means c.in_err-i.was);
  within = tt;
})

pub returns : goal.returns
returns c = record {
  means = converts _ _ pack_scalar _ _ (whole-gives _ _ _ c.whole_at.ensures.means _ c.in_ok-i.was) (wrote (scalar-whole _) (told _ _ _ c.put_whole-written.ensures));
  within = ends_is c.args.at (length c.args.s.now) c.in_ok-i.was c.whole_at.ensures.within;
}
