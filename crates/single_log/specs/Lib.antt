pub mod Contents
pub mod Images
pub mod Keeping
pub mod Adding
pub mod Running
pub mod Opening
pub mod Leaving
