pub mod Calls
pub mod Arguments
pub mod Checked
pub mod Refusals
pub mod Results
pub mod Plans
pub mod Finishing
pub mod Sizes
