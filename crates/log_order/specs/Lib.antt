pub mod Orders
pub mod Refinement
pub mod OrderLaws
pub mod OpenLaws
pub mod AppendLaws
pub mod CheckpointLaws
pub mod CrashLaws
