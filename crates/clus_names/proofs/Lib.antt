pub mod Pieces
pub mod Texts
pub mod Folds
pub mod Escapes
pub mod UnitLaws
