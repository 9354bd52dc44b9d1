pub mod BadLogs
pub mod Door
pub mod Images
pub mod Session
