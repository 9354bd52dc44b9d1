pub mod Standing
pub mod Chaining
pub mod Cases
pub mod Marking
pub mod Runs
