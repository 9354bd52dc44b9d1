pub mod Draws
pub mod Clusters
pub mod Lines
pub mod Rounds
