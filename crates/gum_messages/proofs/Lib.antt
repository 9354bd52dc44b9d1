pub mod Lookup
pub mod Ascending
pub mod Placing
pub mod Beside
pub mod Branches
pub mod BodyLaws
pub mod MessageLaws
