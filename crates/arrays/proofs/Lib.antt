pub mod All
pub mod Facts
pub mod Laws
pub mod Grammar
