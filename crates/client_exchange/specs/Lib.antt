pub mod Stages
pub mod Requests
pub mod Texts
pub mod Replies
pub mod Steps
pub mod Exchange
