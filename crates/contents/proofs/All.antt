-- What is claimed of contents pages. This file is checked first, and what it names in this order: so the log of an edit of a definition
-- begins with a case that the edit makes false.
pub use Rattle.contents.proofs.Examples.{cut-files, uncut-files, overlapping-files, apart-files, good-files, bad-files, bytes_of, sections-of, bodies_of}
pub use Rattle.contents.proofs.Claims.{claims}
