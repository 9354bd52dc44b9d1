pub mod BadLogs
pub mod Counting
pub mod CutLaws
pub mod DoneLaws
pub mod DoorLaws
pub mod Fences
pub mod Keeps
pub mod SessionLaws
