pub mod Lists
pub mod Streams
pub mod Stubs
pub mod Plans
pub mod Handles
pub mod Items
pub mod Events
