-- All that is claimed of messages written and heard. This file is checked first, and what it names in this order: so the log of an edit of a
-- definition begins with a message whose bytes are then others, or that is heard as another.
pub use Rattle.spoken.proofs.Examples.{in-json, in-pack}
pub use Rattle.spoken.proofs.HeardExamples.{all-heard, all-packed, too_long}
pub use Rattle.spoken.proofs.RoundTrip.{round-trip}
