pub mod Uri
pub mod Components
pub mod Rule
