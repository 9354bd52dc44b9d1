pub mod Cuts
pub mod NumbersRead
pub mod Members
pub mod WordTexts
pub mod Reached
pub mod LineLaws
