use Rattle.to_msgpack.proofs.Scalars.{below-not, below-zero, below-far, below-gives, scalar-whole, scalar_below, ends_is}
use Rattle.conversion.proofs.Conv.{converts, converts-not}
use Rattle.buffer.proofs.Wrote.{told, wrote}
use Rattle.values.specs.Write.{pack_scalar}
use lib.ListN.{length}
use Rattle.to_msgpack.proofs.pack_below.Goals as goal

pub returns-in_err-i : goal.returns-in_err-i
returns-in_err-i c = rw c.from_residual.ensures (record {
  means = converts-not _ _ pack_scalar _ _ (below-not _ _ _ c.whole_at.ensures.means c.in_err-i.was);
  within = tt;
})

pub returns-then-n-eq0 : goal.returns-then-n-eq0
returns-then-n-eq0 c = record {
  means = converts _ _ pack_scalar _ _ (below-zero _ _ _ c.whole_at.ensures.means _ c.in_ok-i.was c.if-n-eq0.true) (wrote (scalar-whole _) (told _ _ _ c.put_whole-written.ensures));
  within = ends_is c.args.at (length c.args.s.now) c.in_ok-i.was c.whole_at.ensures.within;
}

pub returns-then-n-gt-MOST_BELOW : goal.returns-then-n-gt-MOST_BELOW
returns-then-n-gt-MOST_BELOW c = record {
  means = converts-not _ _ pack_scalar _ _ (below-far _ _ _ c.whole_at.ensures.means _ c.in_ok-i.was c.if-n-gt-MOST_BELOW.true);
  within = tt;
}

pub returns : goal.returns
returns c = record {
  means = converts _ _ pack_scalar _ _ (below-gives _ _ _ c.whole_at.ensures.means _ c.in_ok-i.was c.if-n-eq0.false c.if-n-gt-MOST_BELOW.false) (wrote (scalar_below _) (told _ _ _ c.put_below-written.ensures));
  within = ends_is c.args.at (length c.args.s.now) c.in_ok-i.was c.whole_at.ensures.within;
}
