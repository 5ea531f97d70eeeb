pub mod Maps
pub mod Grammar
