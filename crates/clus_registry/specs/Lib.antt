pub mod Kept
pub mod Outcomes
pub mod Found
pub mod States
pub mod Builds
