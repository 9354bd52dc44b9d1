pub mod Begins
pub mod Endings
pub mod Hearing
pub mod Serving
pub mod Session
pub mod Talking
pub mod Visits
