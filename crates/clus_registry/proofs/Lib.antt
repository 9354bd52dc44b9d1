pub mod Seen
pub mod Verdicts
pub mod Batches
pub mod Finishing
