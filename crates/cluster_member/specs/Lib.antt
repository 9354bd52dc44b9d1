pub mod States
pub mod Logging
pub mod Events
