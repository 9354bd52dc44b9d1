pub mod Texts
pub mod Replays
pub mod Lasts
pub mod Outcomes
