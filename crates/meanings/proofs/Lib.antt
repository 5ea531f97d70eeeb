pub mod Json
pub mod JsonExamples
pub mod JsonItems
pub mod JsonScalars
pub mod MsgPack
pub mod MsgPackExamples
pub mod MsgPackScalars
pub mod Both
