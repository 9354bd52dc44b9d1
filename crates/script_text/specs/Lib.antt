pub mod Lines
pub mod Prints
pub mod Shows
pub mod Refusals
pub mod Counting
pub mod Ends
