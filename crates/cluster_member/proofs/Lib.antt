pub mod Hearings
pub mod Installations
pub mod Keeping
pub mod Owning
pub mod Writings
