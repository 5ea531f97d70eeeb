pub mod All
pub mod Facts
pub mod PackFacts
pub mod Payloads
pub mod Messages
pub mod Sent
pub mod Enough
pub mod Output
