pub mod Streams
pub mod Requests
