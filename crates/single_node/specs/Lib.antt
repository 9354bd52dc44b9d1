pub mod Delivering
pub mod Laws
pub mod Opening
pub mod Recording
pub mod Singles
pub mod Standing
