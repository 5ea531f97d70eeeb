use borrow.Author.Tests.{lt-ltb, le-ltb}
use Rattle.model.specs.Step.{has_number}
use Rattle.rows.specs.Place.{place_in}
use Rattle.rows.proofs.place.Goals as goal

pub returns-then-counter-ge-LAST_ID : goal.returns-then-counter-ge-LAST_ID
unfolding place_in has_number
returns-then-counter-ge-LAST_ID c = let e = c.counter.ensures in rw (le-ltb _ _ (rw e at c.if-counter-ge-LAST_ID.true))

pub returns : goal.returns
unfolding place_in has_number
returns c = let e = c.counter.ensures in rw (lt-ltb _ _ (rw e at c.if-counter-ge-LAST_ID.false)) c.lowest_free.ensures
