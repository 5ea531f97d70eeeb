-- How long a value is in the other format, by the bytes that it stands in: the room that a converted payload needs. Assumes nothing.
pub use Rattle.values.proofs.SizesJson.{to-json}
pub use Rattle.values.proofs.SizesPack.{to-pack}
