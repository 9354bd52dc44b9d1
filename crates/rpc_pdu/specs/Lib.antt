pub mod Encoding
pub mod Flags
pub mod Grammar
pub mod Header
pub mod PduTypes
pub mod Reading
pub mod Writing
