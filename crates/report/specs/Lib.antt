pub mod Contents
pub mod Text
