-- What is claimed of the URI rule. This file is checked first, and what it names in this order: so the log of an edit of a definition begins
-- with a text that the edit judges otherwise, and goes on to the statement that says a second time what the definition means.
pub use Rattle.uri.proofs.Sides.{sides}
pub use Rattle.uri.proofs.Rule.{uri-rule}
pub use Rattle.uri.proofs.Places.{splitting}
