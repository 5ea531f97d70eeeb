pub mod Laws
pub mod Numbers
pub mod HolderBytes
pub mod Rows
pub mod Tables
pub mod Parts
pub mod Places
pub mod RoundTrip
