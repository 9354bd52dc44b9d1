pub mod Unique
pub mod Lists
pub mod Exact
pub mod Parts
pub mod OneFault
