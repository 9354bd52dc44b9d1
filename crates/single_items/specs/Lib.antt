pub mod Alone
pub mod Events
pub mod Standing
pub mod Promises
