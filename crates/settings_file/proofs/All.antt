-- What is claimed of the settings file. This file is checked first, and what it names in this order: so the log of an edit of a definition
-- begins with a case that the edit makes false.
pub use Rattle.settings_file.proofs.Examples.{written, read, unknown-files, cut-files, overlapping-files, wrong-kinds, wrong-lengths, too_many, rule-twice, outside-files, good-files, rooms}
pub use Rattle.settings_file.proofs.Claims.{claims}
