pub mod Value
pub mod Write
pub mod Read
pub mod Stands
pub mod Skips
pub mod Whole
pub mod Same
