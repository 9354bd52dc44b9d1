pub mod AcceptedLaws
pub mod ReplyLaws
