pub mod Puts
pub mod Laws
pub mod Bodies
pub mod Short
pub mod Examples
