pub mod Behind
pub mod Steps
pub mod Owners
pub mod Fencing
pub mod Opens
pub mod Writes
pub mod Crashes
pub mod Runs
