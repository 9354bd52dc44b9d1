pub mod Values
pub mod Level
pub mod Weights
pub mod Places
pub mod Windows
