pub mod States
pub mod Steps
pub mod Opening
pub mod Pulling
pub mod Recovery
pub mod Ticking
