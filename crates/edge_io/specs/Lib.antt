pub mod Plan
pub mod Reading
pub mod Supply
pub mod Tcp
pub mod Visits
