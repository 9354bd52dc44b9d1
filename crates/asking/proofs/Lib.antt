pub mod LineLaws
pub mod VisitLaws
pub mod TalkLaws
pub mod RunLaws
pub mod AskLaws
