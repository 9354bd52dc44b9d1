pub mod Worlds
pub mod Conditions
pub mod Refusing
pub mod Telling
pub mod Happening
pub mod Runs
