pub mod Aligned
pub mod Canonical
pub mod Reading
pub mod Spelling
pub mod Text
pub mod Writing
