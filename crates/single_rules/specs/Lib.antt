pub mod Single
pub mod Rounds
pub mod Logging
pub mod Promises
pub mod InWorlds
