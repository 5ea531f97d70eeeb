pub mod All
pub mod Examples
pub mod Laws
pub mod Tests
pub mod Written
pub mod Claims
