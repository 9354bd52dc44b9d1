pub mod Folding
pub mod Parts
pub mod Limits
pub mod Faults
pub mod UnitTexts
pub mod UnitFaults
