pub mod Members
pub mod Places
pub mod Views
pub mod Messages
pub mod Spelling
pub mod Grammar
pub mod Faults
