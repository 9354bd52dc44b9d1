pub mod Answered
pub mod BodyLaws
pub mod EncodingLaws
pub mod HeaderLaws
pub mod Loops
pub mod PartLaws
pub mod PduLaws
pub mod Steps
