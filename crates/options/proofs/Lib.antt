pub mod All
pub mod Examples
pub mod Cases
pub mod Laws
pub mod Grammar
