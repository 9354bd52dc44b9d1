pub mod Cases
pub mod Logging
pub mod Runs
