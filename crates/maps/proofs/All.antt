-- What is claimed of a map's members. This file is checked first, and what it names in this order: so the log of an edit of a definition
-- begins with a case that the edit makes false, or with the statement that says a second time what the definition means.
pub use Rattle.maps.proofs.Facts.{keys, others, several, maps-of, limits, texts}
pub use Rattle.maps.proofs.Grammar.{value-is, value_none, map_of, value-in, none_in}
