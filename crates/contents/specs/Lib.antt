pub mod Contents
pub mod Claims
