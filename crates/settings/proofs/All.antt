-- All that is claimed of settings. This file is checked first, and what it names in this order: so the log of an edit of a definition begins
-- with a case that the edit makes false.
pub use Rattle.settings.proofs.Examples.{examples}
pub use Rattle.settings.proofs.Claims.{claims}
