-- What is claimed of values. This file is checked first, and what it names in this order: so the log of an edit of a definition begins with a
-- case that the edit makes false, and goes on to the laws.
pub use Rattle.values.proofs.Facts.{in-json, spaced-json, in-pack, json-zero, json-ends, json-parts, json-strings, json-spellings, json-halves, json-deep}
pub use Rattle.values.proofs.Facts.{pack-whole, pack-below, pack-longer, pack-none, pack-keys, pack-deep, pack-texts, pack-arrays, pack-maps, pack-heads}
pub use Rattle.values.proofs.Both.{back, written_back, agree, taken, over, written_over}
pub use Rattle.values.proofs.Good.{good}
pub use Rattle.values.proofs.Sizes.{to-json, to-pack}
