pub mod Journals
pub mod Slots
pub mod Playing
pub mod Moving
pub mod Types
