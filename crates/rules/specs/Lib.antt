pub mod ByTable
pub mod Mark
