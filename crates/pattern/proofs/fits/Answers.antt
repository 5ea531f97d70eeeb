use Rattle.pattern.specs.Match.{fits_text}
use Rattle.pattern.proofs.fits.Goals as goal

pub returns-in-Exact : goal.returns-in-Exact
unfolding fits_text
returns-in-Exact c = rw c.in-Exact.is c.same_bytes.ensures

pub returns-in-Prefix : goal.returns-in-Prefix
unfolding fits_text
returns-in-Prefix c = rw c.in-Prefix.is c.begins.ensures

pub returns-in-Wildcard : goal.returns-in-Wildcard
unfolding fits_text
returns-in-Wildcard c = rw c.in-Wildcard.is c.parts_fit.ensures
