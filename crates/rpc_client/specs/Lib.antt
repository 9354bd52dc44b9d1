pub mod Runs
pub mod Exchange
pub mod Clients
pub mod Progress
