pub mod Audience
pub mod Grammar
pub mod Meaning
