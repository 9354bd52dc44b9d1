pub mod Checks
pub mod Following
pub mod NameTexts
pub mod Told
pub mod ShortResults
pub mod StubSizes
