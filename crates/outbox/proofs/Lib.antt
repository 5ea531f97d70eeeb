pub mod Facts
pub mod Mails
pub mod Turns
