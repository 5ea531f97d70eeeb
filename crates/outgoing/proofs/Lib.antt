pub mod All
pub mod Spelled
pub mod Lengths
pub mod Contents
pub mod Shortest
pub mod Sent
