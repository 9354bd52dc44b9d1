pub mod BindSpells
pub mod RequestSizes
