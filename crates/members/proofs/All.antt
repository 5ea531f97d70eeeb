-- What is claimed of a dict's members. This file is checked first, and what it names in this order: so the log of an edit of a definition
-- begins with a case that the edit makes false, or with the statement that says a second time what the definition means.
pub use Rattle.members.proofs.Examples.{examples}
pub use Rattle.members.proofs.Grammar.{members-are, option_is, option-none, keys-sound}
