pub mod Numbers
pub mod Script
