pub mod Words
pub mod Values
pub mod Requests
pub mod Grammar
pub mod Reading
pub mod Fitting
pub mod Lines
