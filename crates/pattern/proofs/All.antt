-- All that is claimed of matching. This file is checked first, and what it names in this order: so the log of an edit of a definition begins
-- with a case that the edit makes false, or with the statement that says a second time what the definition means.
pub use Rattle.pattern.proofs.Ahead.{each-better}
pub use Rattle.pattern.proofs.Marked.{all_right}
pub use Rattle.pattern.proofs.Fit.{fit}
pub use Rattle.pattern.proofs.Chosen.{matching}
