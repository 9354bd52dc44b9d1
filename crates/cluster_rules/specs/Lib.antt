pub mod Machines
pub mod Nodes
pub mod Updates
pub mod Joins
pub mod Receiving
pub mod Worlds
pub mod Promises
pub mod Progress
