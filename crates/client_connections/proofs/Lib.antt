pub mod ConnectionLaws
pub mod ItemLaws
pub mod QueueLaws
pub mod TakingLaws
pub mod TurnLaws
