pub mod Asking
pub mod Commands
pub mod Ends
pub mod Export
pub mod Runs
pub mod Scripts
pub mod Showlog
pub mod Statuses
