pub mod Strings
pub mod Places
pub mod Spelling
