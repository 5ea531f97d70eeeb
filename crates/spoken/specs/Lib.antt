pub mod Parts
pub mod Written
pub mod Sent
pub mod Heard
