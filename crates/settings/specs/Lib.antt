pub mod Settings
pub mod Lent
pub mod Claims
