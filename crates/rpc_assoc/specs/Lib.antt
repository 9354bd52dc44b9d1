pub mod Answers
pub mod Association
pub mod Laws
pub mod State
pub mod Verdicts
