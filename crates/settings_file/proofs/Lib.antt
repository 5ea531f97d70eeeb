pub mod All
pub mod Examples
pub mod Body
pub mod Tests
pub mod Written
pub mod Refusals
pub mod RoundTrip
pub mod Claims
