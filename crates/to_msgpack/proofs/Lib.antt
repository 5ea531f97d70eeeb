pub mod Integers
pub mod Scalars
pub mod Lists
