-- What is claimed of the options. This file is checked first, and what it names in this order: so the log of an edit of a definition begins with
-- a case that the edit makes false, or with the statement that says a second time what the definition means.
pub use Rattle.options.proofs.Examples.{flags, json-lists, packed-lists, left, wrongs}
pub use Rattle.options.proofs.Grammar.{flag_is, flag-absent, ids-is, ids-absent}
pub use Rattle.options.proofs.Laws.{lists-in}
