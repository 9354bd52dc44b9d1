pub mod Closing
pub mod Entries
pub mod Opening
pub mod Serials
