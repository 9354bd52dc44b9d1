pub mod Loops
pub mod Fields
pub mod ChangeLaws
pub mod RecordLaws
pub mod Reach
pub mod Within
