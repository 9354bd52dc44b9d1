pub mod Overlays
pub mod Replays
pub mod Fills
pub mod Sounds
pub mod Returning
