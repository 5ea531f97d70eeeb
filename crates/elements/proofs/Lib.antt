pub mod IdLaws
pub mod Laws
pub mod Exact
pub mod Grammar
mod Examples
pub mod Numbers
