-- What is claimed of undoing. This file is checked first, and what it names in this order: so the log of an edit of a definition begins with a
-- string that the edit undoes to another text, and goes on to the statement that says a second time what a string stands for.
pub use Rattle.strings.proofs.Examples.{texts-undone, twos-undone, digits-undone, rows-undone, pairs-undone, halves-undone, written}
pub use Rattle.strings.proofs.Spelling.{undoing}
