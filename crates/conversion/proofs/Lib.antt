pub mod Conv
pub mod Carried
pub mod Same
