pub mod All
pub mod Examples
pub mod Laws
pub mod Exact
pub mod Grammar
