pub mod Facts
pub mod Heads
pub mod Laws
pub mod Keys
pub mod Rows
pub mod Items
pub mod Grammar
