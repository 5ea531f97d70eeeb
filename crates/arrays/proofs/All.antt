-- What is claimed of a message's array. This file is checked first, and what it names in this order: so the log of an edit of a definition
-- begins with a case that the edit makes false, or with the statement that says a second time what the definition means.
pub use Rattle.arrays.proofs.Facts.{ids, kinds, counts, wholes, forms-of, insides, limits, shapes}
pub use Rattle.arrays.proofs.Grammar.{outer-found, outer-is, array_of, listed_found, listed-is, listed-stands, id-is, string-is, list-is, dict-is, id-kind}
