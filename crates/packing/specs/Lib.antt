pub mod Headed
pub mod Counted
