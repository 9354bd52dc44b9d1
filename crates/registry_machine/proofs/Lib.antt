pub mod Changes
pub mod Orders
pub mod Instance
pub mod Folds
pub mod Calls
pub mod TextBytes
pub mod Runs
