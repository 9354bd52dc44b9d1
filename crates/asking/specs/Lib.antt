pub mod Inputs
pub mod Texts
pub mod Connections
pub mod Given
pub mod Asking
pub mod Halting
pub mod Meetings
pub mod Conversations
