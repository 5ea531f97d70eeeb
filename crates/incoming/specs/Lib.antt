pub mod Incoming
pub mod Read
pub mod Shapes
