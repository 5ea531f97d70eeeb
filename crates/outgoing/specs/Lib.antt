pub mod Outgoing
pub mod Layout
pub mod Contents
pub mod Sent
