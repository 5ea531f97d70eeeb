pub mod Meaning
pub mod Emit
