pub mod All
pub mod Examples
pub mod Claims
pub mod Decided
pub mod RoundTrip
pub mod Texts
pub mod Kept
pub mod Laws
