pub mod Capped
pub mod Over
