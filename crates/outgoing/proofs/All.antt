-- What is claimed of the messages sent. This file is checked first, and what it names in this order: so the log of an edit of a definition
-- begins with a message that the edit writes otherwise, and goes on to the statements that say a second time what is written and read.
pub use Rattle.outgoing.proofs.Spelled.{all-spelled, all-packed, written, read, silent}
pub use Rattle.outgoing.proofs.Sent.{sent}
pub use Rattle.outgoing.proofs.Contents.{contents-layout, length-layout}
