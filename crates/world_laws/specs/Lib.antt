pub mod Typed
pub mod Safe
pub mod Kept
pub mod Growing
