-- All that is claimed of reading. This file is checked first, and what it names in this order: so the log of an edit of a definition begins with
-- a message that is then read as another, or with what has a message's shape and is not read as that message.
pub use Rattle.incoming.proofs.Examples.{all_read}
pub use Rattle.incoming.proofs.PackExamples.{all-packed}
pub use Rattle.incoming.proofs.Complete.{complete}
pub use Rattle.incoming.proofs.Shapes.{reading}
pub use Rattle.incoming.proofs.Whole.{read_whole}
