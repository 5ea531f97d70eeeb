pub mod All
pub mod Examples
pub mod Steps
pub mod Plain
pub mod Written
mod Rows
mod Spelt
mod Inside
pub mod Spelling
pub mod Shorter
mod Laws
pub mod Places
