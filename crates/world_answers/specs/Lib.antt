pub mod Histories
pub mod Promises
