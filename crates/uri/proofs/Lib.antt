pub mod All
pub mod Sides
pub mod Rule
pub mod Laws
pub mod Uses
pub mod Components
pub mod Places
