pub mod Kinds
pub mod Elements
pub mod Grammar
