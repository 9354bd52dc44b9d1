pub mod Acting
pub mod Beginning
pub mod Connecting
pub mod Keeping
pub mod Noting
pub mod Sound
pub mod Turning
pub mod Typed
