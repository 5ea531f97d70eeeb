pub mod Head
pub mod MsgPack
pub mod Keys
pub mod Grammar
