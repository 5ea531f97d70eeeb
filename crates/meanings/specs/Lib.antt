pub mod Json
pub mod MsgPack
pub mod Means
