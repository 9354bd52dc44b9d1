pub mod Arguments
pub mod CommandLaws
pub mod FormLaws
pub mod Names
pub mod Numbers
pub mod PlainWords
pub mod Rows
