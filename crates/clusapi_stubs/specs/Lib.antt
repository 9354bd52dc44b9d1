pub mod Grammar
pub mod Inputs
pub mod Kinds
pub mod Outputs
pub mod Parameters
pub mod Requests
pub mod Results
