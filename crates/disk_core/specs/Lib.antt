pub mod Images
pub mod Views
pub mod Calls
pub mod Crashes
pub mod Notes
pub mod Files
