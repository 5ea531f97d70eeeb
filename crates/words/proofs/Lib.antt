pub mod Between
pub mod Meaning
