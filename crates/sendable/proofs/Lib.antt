pub mod Payloads
pub mod Taken
pub mod Sent
