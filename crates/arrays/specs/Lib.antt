pub mod Arrays
pub mod Grammar
