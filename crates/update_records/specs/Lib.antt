pub mod Checked
pub mod Validity
pub mod Spelling
pub mod Limits
pub mod Entry
pub mod Grammar
pub mod Outcomes
